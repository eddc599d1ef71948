-- The least octets of an INTEGER of 64 bits, read and written: X.690, section 8.3.
pub use Rattle.term_values.proofs.IntegerLaws.{turned_below, turned_all, eight_octets, turned_more, power_more}
pub use Rattle.term_values.proofs.IntegerLaws.{contents_of_value}
pub use Rattle.term_values.proofs.IntegerLaws.{contents_least, number_below_sign, octets_fit, IsValue, value_read}
pub use Rattle.term_values.proofs.IntegerLaws.{positive_word}
pub use Rattle.term_values.proofs.IntegerLaws.{negative_word}
