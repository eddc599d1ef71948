-- The syntaxes of the attributes by which discriminators and logs are known: X.721, X.734, X.735; docs/PROFILE.md,
-- section 15.
use Rattle.std.specs.Prelude.{ℕ, List, [], ◌∷◌, pos, codes}
use Rattle.term_values.specs.CmipTypes.{one}
use Rattle.term_values.specs.Syntaxes.{TypeSyntax}
use Rattle.term_values.specs.Syntaxes.TypeSyntax.{Choice, Enumerated, Filter, Integer, ObjectIdentifier, SetOf}
use Rattle.term_values.specs.Syntaxes.TypeSyntax.{TextString}
use Rattle.term_values.specs.Syntaxes.TypeParts.{NoParts}
use Rattle.term_values.specs.declared.charset.Charset.TheVariants as charsets

-- SimpleName ::= CHOICE { number INTEGER, string GraphicString }
abbrev pub simple_name : TypeSyntax
simple_name =
    Choice (one (codes "number") (Integer [] []) (one (codes "string") (TextString charsets.Graphic []) NoParts))

-- ENUMERATED { locked(0), unlocked(1), shuttingDown(2) }
abbrev pub administrative_state : TypeSyntax
administrative_state =
    Enumerated ((codes "locked", pos 0) ∷ (codes "unlocked", pos 1) ∷ (codes "shuttingDown", pos 2) ∷ [])

-- ENUMERATED { disabled(0), enabled(1) }
abbrev pub operational_state : TypeSyntax
operational_state = Enumerated ((codes "disabled", pos 0) ∷ (codes "enabled", pos 1) ∷ [])

-- SET OF INTEGER
abbrev pub availability_status : TypeSyntax
availability_status = SetOf (Integer [] []) []

-- CHOICE { single OBJECT IDENTIFIER, multiple SET OF OBJECT IDENTIFIER }
abbrev pub destination : TypeSyntax
destination =
    Choice (one (codes "single") ObjectIdentifier (one (codes "multiple") (SetOf ObjectIdentifier []) NoParts))

-- ENUMERATED { wrap(0), halt(1) }
abbrev pub log_full_action : TypeSyntax
log_full_action = Enumerated ((codes "wrap", pos 0) ∷ (codes "halt", pos 1) ∷ [])

-- INTEGER (0..9223372036854775807)
abbrev pub from_zero : TypeSyntax
from_zero = Integer [] ((pos 0, pos 9223372036854775807) ∷ [])

-- the attributes of top, by label and syntax
abbrev pub top_attributes : List (List ℕ × TypeSyntax)
top_attributes =
    (codes "objectClass", ObjectIdentifier) ∷ (codes "nameBinding", ObjectIdentifier)
    ∷ (codes "packages", SetOf ObjectIdentifier []) ∷ []

-- of eventForwardingDiscriminator
abbrev pub discriminator_attributes : List (List ℕ × TypeSyntax)
discriminator_attributes =
    (codes "discriminatorId", simple_name) ∷ (codes "discriminatorConstruct", Filter)
    ∷ (codes "destination", destination) ∷ (codes "administrativeState", administrative_state)
    ∷ (codes "operationalState", operational_state) ∷ top_attributes

-- of log
abbrev pub log_attributes : List (List ℕ × TypeSyntax)
log_attributes =
    (codes "logId", simple_name) ∷ (codes "discriminatorConstruct", Filter)
    ∷ (codes "administrativeState", administrative_state) ∷ (codes "operationalState", operational_state)
    ∷ (codes "availabilityStatus", availability_status) ∷ (codes "logFullAction", log_full_action)
    ∷ (codes "maxLogSize", from_zero) ∷ (codes "currentLogSize", from_zero) ∷ (codes "numberOfRecords", from_zero)
    ∷ top_attributes
