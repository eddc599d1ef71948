pub mod BeginningLaws
pub mod CountLaws
pub mod DecodingLaws
pub mod EncodingLaws
pub mod MemberLaws
pub mod StableLaws
pub mod StringLaws
pub mod UnorderedLaws
