mod ReadBack
mod SentForms
