-- The labels by which discriminators and logs are known: X.721; docs/PROFILE.md, section 15.
use Rattle.std.specs.Prelude.{Bool, ◌||◌, codes}
use Rattle.term_model.specs.declared.schema.ClassRec.{ClassRec}
use Rattle.term_model.specs.Comparing.{is_same_octets}

-- a class has one of the two
unfoldable pub is_known : ClassRec → Bool
is_known of_class =
    is_same_octets of_class.label (codes "eventForwardingDiscriminator") || is_same_octets of_class.label (codes "log")
