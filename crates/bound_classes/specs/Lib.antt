-- The definitions that the contracts of bound_classes cite.
pub mod DiscriminatorAttributes
pub mod BoundLabels
pub mod KnownLabels
pub mod Behaviour
