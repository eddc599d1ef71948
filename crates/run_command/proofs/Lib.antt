mod CauseLaws
mod TextLaws
mod PlayLaws
