mod PartLaws
mod PartsDenoted
mod TitleDenoted
