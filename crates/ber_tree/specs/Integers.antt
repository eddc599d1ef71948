-- The contents octets of an INTEGER, as they are read: X.690, section 8.3.
pub use Rattle.term_values.specs.Octets.{octet_turned, are_least, signed_number}
