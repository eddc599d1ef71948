-- What is written of one component: X.690, section 11.5.
pub use Rattle.term_values.specs.Components.{is_default, slot_encodings, slot_octets}
