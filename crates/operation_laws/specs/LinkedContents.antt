-- What a linked reply takes over of a result or of an error's parameter: X.690, section 8.1.3.
use Rattle.std.specs.Prelude.{◌≡◌, ℕ, List, true}
use Rattle.term_values.specs.Der.{encoded}
use Rattle.term_values.specs.Tag.{universal}
use Rattle.operation_model.specs.LinkedReplies.{contents_in}

-- the contents octets of a SEQUENCE that was written are those with which it was written, of any length
abbrev pub ContentsAreRead : Type 0
ContentsAreRead = (contents : List ℕ) → contents_in (encoded true (universal 16) contents) ≡ contents
