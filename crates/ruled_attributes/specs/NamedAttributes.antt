-- NamedAttributes: which attribute a step of a rule names, by its place among the linked ones (docs/PROFILE.md,
-- sections 9 and 12).
use Rattle.std.specs.Prelude.{ℕ, Option, None, Some}
use Rattle.linked_parts.specs.declared.linked.LinkedStep.{LinkedStep}
use Rattle.linked_parts.specs.declared.linked.LinkedStep.TheVariants.{SetArgument, SetValue, Add, Emit, ReplyArgument}
use Rattle.linked_parts.specs.declared.linked.LinkedStep.TheVariants.{ReplyAttribute, ReplyValue}

-- the attribute that a step sets, adds to or replies; EMIT, and REPLY with another value, name none
abbrev pub attribute_of_step : LinkedStep → Option ℕ
attribute_of_step (SetArgument k) = Some k
attribute_of_step (SetValue k value) = Some k
attribute_of_step (Add number k) = Some k
attribute_of_step (Emit k value) = None
attribute_of_step ReplyArgument = None
attribute_of_step (ReplyAttribute k) = Some k
attribute_of_step (ReplyValue value) = None
