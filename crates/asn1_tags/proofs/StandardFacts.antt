-- StandardFacts: examples of the definitions (X.680, sections 8.4, 25.6, 27.3 and 29.3).
use Rattle.std.proofs.Common.{◌≡◌, [], ◌∷◌, true, false, codes, refl}
use Rattle.term_values.specs.UniversalTags.{boolean, integer}
use Rattle.asn1_names.specs.ModuleTerms.PresenceTerm.{Needed, OptionalTerm}
use Rattle.asn1_names.specs.ModuleTerms.MemberTerms.{Member, NoMembers}
use Rattle.asn1_names.specs.NodeCount.HasNodes.{plain}
use Rattle.asn1_names.specs.TypeWords.{one_word_type}
use Rattle.asn1_names.proofs.Texts.{simple, word}
use Rattle.asn1_tags.specs.GatheredTags.{word_begins}
use Rattle.asn1_tags.specs.KnownFacts.{HasCount, is_marked}
use Rattle.asn1_tags.specs.MemberRows.{members}

-- BOOLEAN begins with its own tag, and not with that of INTEGER; a word of no type with none
boolean_example : word_begins (one_word_type (codes "BOOLEAN")) boolean ≡ true
boolean_example = refl

other_example : word_begins (one_word_type (codes "BOOLEAN")) integer ≡ false
other_example = refl

no_type_example : word_begins (one_word_type (codes "BOOL")) boolean ≡ false
no_type_example = refl

-- { a BOOLEAN, b NULL OPTIONAL }
members_example : members (record { name = word 0 (codes "a"); of = simple 2 (codes "BOOLEAN"); presence = Needed } ∷
    (record { name = word 11 (codes "b"); of = simple 13 (codes "NULL"); presence = OptionalTerm } ∷ []))
    ≡ Member (word 0 (codes "a")) (simple 2 (codes "BOOLEAN")) Needed
    (Member (word 11 (codes "b")) (simple 13 (codes "NULL")) OptionalTerm NoMembers)
members_example = refl

-- BOOLEAN has one node
count_example : HasCount [] 0 (simple 0 (codes "BOOLEAN")) 1
count_example = (1, plain, refl)

-- the second of two assigned types contains itself; there is no third
marked_example : is_marked (false ∷ true ∷ []) 1 ≡ true
marked_example = refl

past_example : is_marked (false ∷ true ∷ []) 2 ≡ false
past_example = refl
