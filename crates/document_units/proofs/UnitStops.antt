-- Which units don't begin at a place: the first two tokens tell.
use Rattle.std.proofs.Common.{◌≡◌, ℕ, ◌≤◌, ◌+◌, Bool, true, false, ◌&&◌, ◌||◌, List, Some, refl}
use Rattle.std.proofs.Common.{◌∙◌, ap, arith, slice_get, codes}
use Rattle.token_grammar.specs.declared.token.Token.{Token}
use Rattle.token_grammar.specs.Beginning as B
use Rattle.token_grammar.specs.Beginning.{Begins}
use Rattle.token_grammar.specs.Form.{Form, Keep, Then, Named}
use Rattle.token_grammar.specs.Outcome.{Stops, closed}
use Rattle.token_grammar.specs.Spelling as S
use Rattle.token_grammar.specs.Spelling.{At, Spells, passes}
use Rattle.token_grammar.specs.TokenTests.{is_label, is_name, is_sign_of, is_word_of}
use Rattle.token_grammar.proofs.Heads.{heads_unknown, or_left, or_right, passes_wider, starts, stops_unless, unknown}
use Rattle.token_grammar.proofs.Parts.{one_word}
use Rattle.token_grammar.proofs.Places.{begins_from, spells_from}
use Rattle.token_grammar.proofs.References.{is_template, other_stops}
use Rattle.token_grammar.proofs.Sequences.{not_closed, passes_false, stops_named, stops_or}
use Rattle.asn1_values_syntax.specs.Asn1.{asn1, module_form}
use Rattle.asn1_values_syntax.specs.ValueForms.{modules}
use Rattle.extra_syntax.specs.SectionForms.{instance_sections, instances_form, rule_sections, rules_form, section}
use Rattle.extra_syntax.specs.SectionForms.{sections}
use Rattle.gdmo_classes.specs.ClassForms.{class_level}
use Rattle.gdmo_members.specs.Clauses.{actions, attributes, behaviours, classes, groups, name_bindings, notifications}
use Rattle.gdmo_members.specs.Clauses.{packages, parameters}
use Rattle.gdmo_members.specs.Templates.{member, templates}
use Rattle.document_units.specs.UnitForms.{is_behind_name, is_class_word, is_section_word}

-- a form that stops does so with more behind it
pub stops_front : {tokens : List Token} {grammar : ℕ → Form} {f : Form} (g : Form) {i k : ℕ} →
    Stops tokens grammar closed f i k → Stops tokens grammar closed (Then f g) i k
stops_front {tokens} {grammar} {f} g {i} {k} one =
    record { order = one.order; unspelt = λ j a s. unspelt s; furthest = λ j b. furthest b }
  where
    unspelt : {j : ℕ} {a : _} → Spells tokens grammar (Then f g) i j a → At tokens j closed
    unspelt (S.both p q) = not_closed (one.unspelt _ _ p)

    furthest : {j : ℕ} → Begins tokens grammar (Then f g) i j → j ≤ k
    furthest B.no_tokens = one.order
    furthest (B.front b) = one.furthest _ b
    furthest (B.rest p b) = not_closed (one.unspelt _ _ p)

-- one that stops behind a token does so with the token
pub stops_behind : {tokens : List Token} {grammar : ℕ → Form} (test : Token → Bool) {g : Form} {i k : ℕ} → i ≤ k →
    (passes test (slice_get tokens i) ≡ true → i + 1 ≤ k) → Stops tokens grammar closed g (i + 1) (i + 1) →
    Stops tokens grammar closed (Then (Keep test) g) i k
stops_behind {tokens} {grammar} test {g} {i} {k} order past one =
    record { order = order; unspelt = λ j a s. unspelt s; furthest = λ j b. furthest b }
  where
    passed : {t : Token} → slice_get tokens i ≡ Some t → test t ≡ true → passes test (slice_get tokens i) ≡ true
    passed is pass = ap (passes test) is ∙ pass

    unspelt : {j : ℕ} {a : _} → Spells tokens grammar (Then (Keep test) g) i j a → At tokens j closed
    unspelt (S.both (S.keep is pass next) q) =
        not_closed (one.unspelt _ _ (spells_from next q))

    furthest : {j : ℕ} → Begins tokens grammar (Then (Keep test) g) i j → j ≤ k
    furthest B.no_tokens = order
    furthest (B.front B.no_tokens) = order
    furthest (B.front (B.token here next)) = let most = past here.passed in omega (arith, most, next)
    furthest (B.rest (S.keep is pass next) b) = let most = past (passed is pass) in
        let least = one.furthest _ (begins_from next b) in omega (arith, most, least)

-- ---- tests of two tokens

-- the word behind a label isn't another one
narrow : (a b c : Bool) → (b ≡ true → c ≡ true) → (a && c) ≡ false → (a && b) ≡ false
narrow false b c wide e = refl
narrow true false c wide e = refl
narrow true true c wide e = absurd (let h = wide refl in cc (h, e))

pub narrower : (tokens : List Token) (i : ℕ) (p q : Token → Bool) → ((t : Token) → p t ≡ true → q t ≡ true) →
    is_template tokens i q ≡ false → is_template tokens i p ≡ false
narrower tokens i p q wide e = narrow (passes is_label (slice_get tokens i)) (passes p (slice_get tokens (i + 1)))
    (passes q (slice_get tokens (i + 1))) (passes_wider p q (slice_get tokens (i + 1)) wide) e

both_not : (a b : Bool) → b ≡ false → (a && b) ≡ false
both_not true b e = e
both_not false b e = refl

-- a token behind the label that passes a test is none of another test
pub other_behind : (tokens : List Token) (i : ℕ) (p q : Token → Bool) → ((t : Token) → p t ≡ true → q t ≡ false) →
    passes p (slice_get tokens (i + 1)) ≡ true → is_template tokens i q ≡ false
other_behind tokens i p q apart e = both_not (passes is_label (slice_get tokens i))
    (passes q (slice_get tokens (i + 1))) (passes_false p q (slice_get tokens (i + 1)) apart e)

pub no_label : (tokens : List Token) (i : ℕ) (q : Token → Bool) → passes is_label (slice_get tokens i) ≡ false →
    is_template tokens i q ≡ false
no_label tokens i q e = rw e refl

-- ---- templates

pub class_stops : {tokens : List Token} {i k : ℕ} → is_template tokens i is_class_word ≡ false → i ≤ k →
    (passes is_label (slice_get tokens i) ≡ true → i + 1 ≤ k) → Stops tokens templates closed class_level i k
class_stops {tokens} {i} {k} other order past =
    stops_or (other_stops packages refl (but (codes "PACKAGE") (λ t e. or_right (is_word_of (codes "MANAGED") t) _
    (or_left (is_word_of (codes "PACKAGE") t) _ e))) order past)
    (stops_or (other_stops classes refl (but (codes "MANAGED") (λ t e. or_left (is_word_of (codes "MANAGED") t) _ e))
    order past)
    (other_stops name_bindings refl (but (codes "NAME") (λ t e. or_right (is_word_of (codes "MANAGED") t) _
    (or_right (is_word_of (codes "PACKAGE") t) _ (or_left (is_word_of (codes "NAME") t) _ e)))) order past))
  where
    but : (text : List ℕ) → ((t : Token) → is_word_of text t ≡ true → is_class_word t ≡ true) →
        is_template tokens i (is_word_of text) ≡ false
    but text wide = narrower tokens i (is_word_of text) is_class_word wide other

-- no template of the other six kinds begins here
pub member_stops : {tokens : List Token} {i k : ℕ} → is_template tokens i (is_word_of (codes "BEHAVIOUR")) ≡ false →
    is_template tokens i (is_word_of (codes "ATTRIBUTE")) ≡ false →
    is_template tokens i (is_word_of (codes "PARAMETER")) ≡ false →
    is_template tokens i (is_word_of (codes "ACTION")) ≡ false →
    is_template tokens i (is_word_of (codes "NOTIFICATION")) ≡ false → i ≤ k →
    (passes is_label (slice_get tokens i) ≡ true → i + 1 ≤ k) → Stops tokens templates closed member i k
member_stops behaviour attribute parameter action notification order past =
    stops_or (other_stops behaviours refl behaviour order past)
    (stops_or (other_stops attributes refl attribute order past)
    (stops_or (other_stops parameters refl parameter order past)
    (stops_or (other_stops groups refl attribute order past)
    (stops_or (other_stops actions refl action order past)
    (other_stops notifications refl notification order past)))))

-- where another word stands behind the label, one that a test tells
pub member_stops_by : {tokens : List Token} {i k : ℕ} (p : Token → Bool) →
    ((t : Token) → p t ≡ true → is_word_of (codes "BEHAVIOUR") t ≡ false) →
    ((t : Token) → p t ≡ true → is_word_of (codes "ATTRIBUTE") t ≡ false) →
    ((t : Token) → p t ≡ true → is_word_of (codes "PARAMETER") t ≡ false) →
    ((t : Token) → p t ≡ true → is_word_of (codes "ACTION") t ≡ false) →
    ((t : Token) → p t ≡ true → is_word_of (codes "NOTIFICATION") t ≡ false) →
    passes p (slice_get tokens (i + 1)) ≡ true → i ≤ k →
    (passes is_label (slice_get tokens i) ≡ true → i + 1 ≤ k) → Stops tokens templates closed member i k
member_stops_by {tokens} {i} p b a q c n e order past = member_stops (other_behind tokens i p _ b e)
    (other_behind tokens i p _ a e) (other_behind tokens i p _ q e) (other_behind tokens i p _ c e)
    (other_behind tokens i p _ n e) order past

-- where no label stands
pub unlabelled : {tokens : List Token} {i k : ℕ} → passes is_label (slice_get tokens i) ≡ false → i ≤ k →
    Stops tokens templates closed class_level i k × Stops tokens templates closed member i k
unlabelled {tokens} {i} {k} e order = (
  class_stops (no_label tokens i is_class_word e) order past,
  member_stops (no_label tokens i _ e) (no_label tokens i _ e) (no_label tokens i _ e) (no_label tokens i _ e)
      (no_label tokens i _ e) order past,
)
  where
    past : passes is_label (slice_get tokens i) ≡ true → i + 1 ≤ k
    past h = absurd (cc (e, h))

-- ---- modules

-- what stands behind the name of a module
abbrev rest_of : Form → Form
rest_of (Then (Then (Keep test) g) h) = g
rest_of f = f

swap : (a b : Bool) → (a || b) ≡ true → (b || a) ≡ true
swap true b e = or_right b true refl
swap false b e = or_left b false e

behind_wide : (t : Token) → starts unknown (rest_of module_form) t ≡ true → is_behind_name t ≡ true
behind_wide t e = swap (is_sign_of (codes "{") t) (is_word_of (codes "DEFINITIONS") t) e

pub module_stops : {tokens : List Token} {i k : ℕ} → (passes is_name (slice_get tokens i)
    && passes is_behind_name (slice_get tokens (i + 1))) ≡ false → i ≤ k →
    (passes is_name (slice_get tokens i) ≡ true → i + 1 ≤ k) → Stops tokens asn1 closed (Named modules) i k
module_stops {tokens} {i} {k} e order past = stops_named modules
    (go (passes is_name (slice_get tokens i)) (passes is_behind_name (slice_get tokens (i + 1))) refl refl e)
  where
    go : (a b : Bool) → passes is_name (slice_get tokens i) ≡ a → passes is_behind_name (slice_get tokens (i + 1)) ≡ b →
        (a && b) ≡ false → Stops tokens asn1 closed module_form i k
    go false b p q e = stops_unless unknown heads_unknown is_name module_form i k order refl (λ t h. h) p
    go true false p q e = stops_front _ (stops_behind is_name order past
        (stops_unless unknown heads_unknown is_behind_name (rest_of module_form) (i + 1) (i + 1) (omega arith) refl
        behind_wide q))
    go true true p q e = absurd (cc e)

-- ---- sections

pub section_stops : {tokens : List Token} {i k : ℕ} → passes is_section_word (slice_get tokens i) ≡ false → i ≤ k →
    Stops tokens sections closed section i k
section_stops {tokens} {i} {k} e order =
    stops_or (stops_named rule_sections (stops_unless unknown heads_unknown is_section_word rules_form i k order refl
    (λ t h. or_left (is_word_of (codes "RULES") t) _ (one_word (is_word_of (codes "RULES") t) h)) e))
    (stops_named instance_sections (stops_unless unknown heads_unknown is_section_word instances_form i k order refl
    (λ t h. or_right (is_word_of (codes "RULES") t) _ (or_left (is_word_of (codes "INSTANCES") t) _
    (one_word (is_word_of (codes "INSTANCES") t) h))) e))
