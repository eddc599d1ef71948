-- SectionForms: the forms of the sections RULES and INSTANCES, which this project adds to GDMO (docs/PROFILE.md,
-- section 9). What they leave out is no syntax. Values are those of ASN.1.
use Rattle.std.specs.Prelude.{ℕ, zero, suc, Bool, false, List, [], ◌∷◌, ◌&&◌, not, codes}
use Rattle.token_grammar.specs.declared.token.Token.{Token}
use Rattle.token_grammar.specs.Form.{Form, Marks, Keep, Then, Or, Maybe, Listed, Many, Named, Empty}
use Rattle.token_grammar.specs.TokenTests.{is_label, is_name, is_number}
use Rattle.token_grammar.specs.Parts.{words, sign}
use Rattle.asn1_values_syntax.specs.ValueForms.{values, comma}
use Rattle.asn1_values_syntax.specs.TypeForms.{keyword}
use Rattle.asn1_values_syntax.specs.Asn1.{asn1}

-- one word that isn't kept
abbrev pub word : List ℕ → Form
word text = Marks (words (text ∷ []))

-- "SET attribute TO (ARGUMENT | value)". ARGUMENT is a name as any other that ASN.1 leaves free, so it is read as a
-- value that is one name.
abbrev pub set_step : Form
set_step = Then (word (codes "SET")) (Then (Keep is_label) (Then (word (codes "TO")) (Named values)))

-- "ADD number TO attribute", where the number is one token
abbrev pub add_step : Form
add_step = Then (word (codes "ADD")) (Then (Keep is_number) (Then (word (codes "TO")) (Keep is_label)))

-- "EMIT notification [value]"
abbrev pub emit_step : Form
emit_step = Then (word (codes "EMIT")) (Then (Keep is_label) (Maybe (Named values)))

-- a label that ASN.1 doesn't leave free, as GeneralizedTime
abbrev pub is_reserved_label : Token → Bool
is_reserved_label token = is_label token && not (is_name token)

-- "REPLY (ARGUMENT | attribute | value)". ARGUMENT and a label that ASN.1 leaves free are read as values that are one
-- name; any other label is no value.
abbrev pub reply : Form
reply = Or (Named values) (Keep is_reserved_label)

abbrev pub reply_step : Form
reply_step = Then (word (codes "REPLY")) reply

-- "step = SET .. | ADD .. | EMIT .. | REPLY .."
abbrev pub step : Form
step = Or set_step (Or add_step (Or emit_step reply_step))

-- "ON class ACTION action DO step, ..;"
abbrev pub rule_head : Form
rule_head = Then (word (codes "ON")) (Then (Keep is_label) (Then (word (codes "ACTION"))
    (Then (Keep is_label) (word (codes "DO")))))

abbrev pub steps : Form
steps = Listed comma Empty step

abbrev pub rule : Form
rule = Then rule_head (Then steps (sign (codes ";")))

-- "RULES .. END", with none or more rules
abbrev pub rules_form : Form
rules_form = Then (keyword (codes "RULES")) (Then (Many Empty rule) (word (codes "END")))

-- "attribute = value, .."
abbrev pub assignment : Form
assignment = Then (Keep is_label) (Then (sign (codes "=")) (Named values))

abbrev pub assignments : Form
assignments = Listed comma Empty assignment

-- "name = { attribute = value, .. }", with braces that are tokens
abbrev pub name : Form
name = Then (sign (codes "{")) (Then assignments (sign (codes "}")))

-- "rest = [WITH attribute = value, ..] [PACKAGES package, ..]", in this order
abbrev pub with_values : Form
with_values = Then (word (codes "WITH")) assignments

abbrev pub labels : Form
labels = Listed comma Empty (Keep is_label)

abbrev pub packages : Form
packages = Then (word (codes "PACKAGES")) labels

-- "ROOT class AT name rest;" or "OBJECT class AT name rest;"
abbrev pub instance_kind : Form
instance_kind = Or (keyword (codes "ROOT")) (keyword (codes "OBJECT"))

abbrev pub instance_head : Form
instance_head = Then instance_kind (Then (Keep is_label) (Then (word (codes "AT")) name))

abbrev pub instance : Form
instance = Then instance_head (Then (Maybe with_values) (Then (Maybe packages) (sign (codes ";"))))

-- "INSTANCES .. END", with none or more lines
abbrev pub instances_form : Form
instances_form = Then (keyword (codes "INSTANCES")) (Then (Many Empty instance) (word (codes "END")))

-- the numbers of the two sections
abbrev pub rule_sections : ℕ
rule_sections = 3

abbrev pub instance_sections : ℕ
instance_sections = 4

-- The table: the forms of ASN.1 under their own numbers, and the two sections. No token begins a form of another
-- number.
abbrev pub sections : ℕ → Form
sections zero = asn1 0
sections (suc zero) = asn1 1
sections (suc (suc zero)) = asn1 2
sections (suc (suc (suc zero))) = rules_form
sections (suc (suc (suc (suc zero)))) = instances_form
sections (suc (suc (suc (suc (suc n))))) = Keep (λ token. false)

-- a section
abbrev pub section : Form
section = Or (Named rule_sections) (Named instance_sections)
