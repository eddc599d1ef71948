-- A unit is told by its first two tokens: the units of the other kinds don't begin there.
use Rattle.std.proofs.Common.{◌≡◌, ℕ, ◌≤◌, ◌+◌, Bool, true, false, ◌&&◌, ◌||◌, not, List, [], ◌∷◌, ◌⊎◌, inl, inr}
use Rattle.std.proofs.Common.{Result, Ok, Err, refl, ap, codes, slice_get, sym, ◌∙◌}
use Rattle.std.specs.Result.{IsErrAnd}
use Rattle.token_grammar.specs.declared.syntax_refusal.SyntaxRefusal.{SyntaxRefusal}
use Rattle.token_grammar.specs.declared.syntax_refusal.SyntaxRefusal.TheVariants.{Syntax}
use Rattle.token_grammar.specs.declared.token.Token.{Token}
use Rattle.token_grammar.specs.Beginning as B
use Rattle.token_grammar.specs.Beginning.{Begins}
use Rattle.token_grammar.specs.Form.{Form, Named, Tree}
use Rattle.token_grammar.specs.Outcome.{Fails, IsSpelt, Stops, closed}
use Rattle.token_grammar.specs.Spelling.{At, Spells, passes}
use Rattle.token_grammar.specs.TokenTests.{is_label, is_name, is_sign_of, is_word_of}
use Rattle.token_grammar.proofs.Known.{at_one_of, at_sign, at_word, second_so, token_of}
use Rattle.token_grammar.proofs.References.{is_template, label_first}
use Rattle.token_grammar.proofs.Sequences.{not_closed, passes_false, spelt_order}
use Rattle.asn1_values_syntax.specs.Asn1.{asn1}
use Rattle.asn1_values_syntax.specs.ValueForms.{modules}
use Rattle.extra_syntax.specs.SectionForms.{section, sections}
use Rattle.gdmo_classes.specs.ClassForms.{class_level}
use Rattle.gdmo_members.specs.Clauses.{behaviours, packages}
use Rattle.gdmo_members.specs.Templates.{member, templates}
use Rattle.document_units.specs.declared.unit.DocumentUnit.{DocumentUnit}
use Rattle.document_units.specs.UnitForms.{BeginsUnit, SpellsUnit, UnitTerm, has_no_template, is_behind_name}
use Rattle.document_units.specs.UnitForms.{is_class_word, is_section_word}
use Rattle.document_units.specs.UnitForms.BeginsUnit.{a_class, a_member, a_module, a_section}
use Rattle.document_units.specs.UnitForms.SpellsUnit.{of_class, of_member, of_module, of_section}
use Rattle.document_units.specs.UnitForms.UnitTerm.{ClassUnit, MemberUnit, ModuleUnit, SectionUnit}
use Rattle.document_units.specs.UnitOutcome.{IsUnit, IsUnitFault, ReadsUnit}
use Rattle.document_units.proofs.UnitStops.{class_stops, member_stops_by, module_stops, other_behind, section_stops}
use Rattle.document_units.proofs.UnitStops.{unlabelled}

-- no module begins here, where no section does
abbrev pub ModuleStops : List Token → ℕ → ℕ → Type 0
ModuleStops tokens i k =
    passes is_section_word (slice_get tokens i) ≡ false → Stops tokens asn1 closed (Named modules) i k

one_of : {tokens : List Token} {grammar : ℕ → Form} {f : Form} {i j k : ℕ} {a b : Tree} (term : Tree → UnitTerm) →
    IsSpelt tokens grammar closed f i a k → Spells tokens grammar f i j b → (j ≡ k) × (term b ≡ term a)
one_of {tokens} {k = k} {a = a} term one s = go (one.only _ _ s)
  where
    go : {j : ℕ} {b : Tree} → ((j ≡ k) × (b ≡ a)) ⊎ At tokens j closed → (j ≡ k) × (term b ≡ term a)
    go (inl p) = (p.0, ap term p.1)
    go (inr p) = not_closed p

never : {A : Type 0} {tokens : List Token} {grammar : ℕ → Form} {f : Form} {i j k : ℕ} {a : Tree} →
    Stops tokens grammar closed f i k → Spells tokens grammar f i j a → A
never r s = not_closed (r.unspelt _ _ s)

-- ---- what is spelt

pub class_unit : {tokens : List Token} {i k : ℕ} {a : Tree} → IsSpelt tokens templates closed class_level i a k →
    Stops tokens templates closed member i k → ModuleStops tokens i k → Stops tokens sections closed section i k →
    IsUnit tokens i (ClassUnit a) k
class_unit {tokens} {i} {k} {a} one r m s =
    record { spelt = of_class one.spelt; only = λ j v x. only x; furthest = λ j b. furthest b }
  where
    only : {j : ℕ} {v : UnitTerm} → SpellsUnit tokens i j v → (j ≡ k) × (v ≡ ClassUnit a)
    only (of_class x) = one_of ClassUnit one x
    only (of_member x) = never r x
    only (of_module e x) = never (m e) x
    only (of_section x) = never s x

    furthest : {j : ℕ} → BeginsUnit tokens i j → j ≤ k
    furthest (a_class b) = one.furthest _ b
    furthest (a_member b) = r.furthest _ b
    furthest (a_module e b) = (m e).furthest _ b
    furthest (a_section b) = s.furthest _ b

pub member_unit : {tokens : List Token} {i k : ℕ} {a : Tree} → IsSpelt tokens templates closed member i a k →
    Stops tokens templates closed class_level i k → ModuleStops tokens i k → Stops tokens sections closed section i k →
    IsUnit tokens i (MemberUnit a) k
member_unit {tokens} {i} {k} {a} one c m s =
    record { spelt = of_member one.spelt; only = λ j v x. only x; furthest = λ j b. furthest b }
  where
    only : {j : ℕ} {v : UnitTerm} → SpellsUnit tokens i j v → (j ≡ k) × (v ≡ MemberUnit a)
    only (of_class x) = never c x
    only (of_member x) = one_of MemberUnit one x
    only (of_module e x) = never (m e) x
    only (of_section x) = never s x

    furthest : {j : ℕ} → BeginsUnit tokens i j → j ≤ k
    furthest (a_class b) = c.furthest _ b
    furthest (a_member b) = one.furthest _ b
    furthest (a_module e b) = (m e).furthest _ b
    furthest (a_section b) = s.furthest _ b

pub module_unit : {tokens : List Token} {i k : ℕ} {a : Tree} → passes is_section_word (slice_get tokens i) ≡ false →
    IsSpelt tokens asn1 closed (Named modules) i a k → Stops tokens templates closed class_level i k →
    Stops tokens templates closed member i k → Stops tokens sections closed section i k →
    IsUnit tokens i (ModuleUnit a) k
module_unit {tokens} {i} {k} {a} free one c r s =
    record { spelt = of_module free one.spelt; only = λ j v x. only x; furthest = λ j b. furthest b }
  where
    only : {j : ℕ} {v : UnitTerm} → SpellsUnit tokens i j v → (j ≡ k) × (v ≡ ModuleUnit a)
    only (of_class x) = never c x
    only (of_member x) = never r x
    only (of_module e x) = one_of ModuleUnit one x
    only (of_section x) = never s x

    furthest : {j : ℕ} → BeginsUnit tokens i j → j ≤ k
    furthest (a_class b) = c.furthest _ b
    furthest (a_member b) = r.furthest _ b
    furthest (a_module e b) = one.furthest _ b
    furthest (a_section b) = s.furthest _ b

pub section_unit : {tokens : List Token} {i k : ℕ} {a : Tree} → passes is_section_word (slice_get tokens i) ≡ true →
    IsSpelt tokens sections closed section i a k → Stops tokens templates closed class_level i k →
    Stops tokens templates closed member i k → IsUnit tokens i (SectionUnit a) k
section_unit {tokens} {i} {k} {a} taken one c r =
    record { spelt = of_section one.spelt; only = λ j v x. only x; furthest = λ j b. furthest b }
  where
    only : {j : ℕ} {v : UnitTerm} → SpellsUnit tokens i j v → (j ≡ k) × (v ≡ SectionUnit a)
    only (of_class x) = never c x
    only (of_member x) = never r x
    only (of_module e x) = absurd (cc (taken, e))
    only (of_section x) = one_of SectionUnit one x

    furthest : {j : ℕ} → BeginsUnit tokens i j → j ≤ k
    furthest (a_class b) = c.furthest _ b
    furthest (a_member b) = r.furthest _ b
    furthest (a_module e b) = absurd (cc (taken, e))
    furthest (a_section b) = one.furthest _ b

-- ---- faults

unspelt_by : {tokens : List Token} {i k : ℕ} → Stops tokens templates closed class_level i k →
    Stops tokens templates closed member i k → ModuleStops tokens i k → Stops tokens sections closed section i k →
    (j : ℕ) (u : UnitTerm) → ¬ SpellsUnit tokens i j u
unspelt_by c r m s j _ (of_class x) = never c x
unspelt_by c r m s j _ (of_member x) = never r x
unspelt_by c r m s j _ (of_module e x) = never (m e) x
unspelt_by c r m s j _ (of_section x) = never s x

furthest_by : {tokens : List Token} {i k : ℕ} → Stops tokens templates closed class_level i k →
    Stops tokens templates closed member i k → ModuleStops tokens i k → Stops tokens sections closed section i k →
    (j : ℕ) → BeginsUnit tokens i j → j ≤ k
furthest_by c r m s j (a_class b) = c.furthest _ b
furthest_by c r m s j (a_member b) = r.furthest _ b
furthest_by c r m s j (a_module e b) = (m e).furthest _ b
furthest_by c r m s j (a_section b) = s.furthest _ b

-- a fault of one kind is a fault of units where the other kinds stop
pub unit_fault : {tokens : List Token} {i k : ℕ} → BeginsUnit tokens i k →
    Stops tokens templates closed class_level i k → Stops tokens templates closed member i k →
    ModuleStops tokens i k → Stops tokens sections closed section i k → IsUnitFault tokens i k
unit_fault begun c r m s =
    record { begun = begun; unspelt = unspelt_by c r m s; furthest = furthest_by c r m s }

-- ---- which unit it is, by the tokens

-- a section begins here
abbrev Sections : List Token → ℕ → Bool → Type 0
Sections tokens i b = passes is_section_word (slice_get tokens i) ≡ b

section_label : (tokens : List Token) (i : ℕ) → Sections tokens i true → passes is_label (slice_get tokens i) ≡ false
section_label tokens i e = passes_false is_section_word is_label (slice_get tokens i)
    (at_one_of (codes "RULES" ∷ codes "INSTANCES" ∷ []) false is_label ((λ at. refl), ((λ at. refl), tt))) e

no_module : {tokens : List Token} {i k : ℕ} → Sections tokens i true → ModuleStops tokens i k
no_module e f = absurd (cc (e, f))

pub section_read : {tokens : List Token} {i k : ℕ} {a : Tree} → Sections tokens i true →
    IsSpelt tokens sections closed section i a k → IsUnit tokens i (SectionUnit a) k
section_read {tokens} {i} e one = let quiet = unlabelled (section_label tokens i e) (spelt_order one) in section_unit e one quiet.0 quiet.1

pub section_failed : {tokens : List Token} {i : ℕ} {r : SyntaxRefusal} → Sections tokens i true →
    Fails tokens sections closed section i r → (k : ℕ) → r ≡ Syntax k → IsUnitFault tokens i k
section_failed {tokens} {i} e fails k is = let one = fails.fault k is in
    let quiet = unlabelled (section_label tokens i e) one.stops.order in
    unit_fault (a_section one.begun) quiet.0 quiet.1 (no_module e) one.stops

-- behind the name of a module stands no word of templates
behind : (tokens : List Token) (i : ℕ) (keyword : Token → Bool) → ((t : Token) → is_behind_name t ≡ true →
    keyword t ≡ false) → passes is_behind_name (slice_get tokens (i + 1)) ≡ true → is_template tokens i keyword ≡ false
behind tokens i keyword apart e = other_behind tokens i is_behind_name keyword apart e

behind_not : (test : Token → Bool) → ((at : ℕ) → test (token_of 0 at (codes "DEFINITIONS")) ≡ false) →
    ((at : ℕ) → test (token_of 5 at (codes "{")) ≡ false) → (t : Token) → is_behind_name t ≡ true → test t ≡ false
behind_not test word sign t e = go (is_word_of (codes "DEFINITIONS") t) refl e
  where
    go : (b : Bool) → is_word_of (codes "DEFINITIONS") t ≡ b → (b || is_sign_of (codes "{") t) ≡ true → test t ≡ false
    go true is e = at_word (codes "DEFINITIONS") false test word t is
    go false is e = at_sign (codes "{") false test sign t e

-- no template begins where a module does, or where no label stands
templates_stop : {tokens : List Token} {i k : ℕ} → has_no_template tokens i ≡ true → i ≤ k →
    (passes is_name (slice_get tokens i) ≡ true → i + 1 ≤ k) →
    Stops tokens templates closed class_level i k × Stops tokens templates closed member i k
templates_stop {tokens} {i} {k} e order past = go (passes is_name (slice_get tokens i))
    (passes is_behind_name (slice_get tokens (i + 1))) (passes is_label (slice_get tokens i)) refl refl refl e
  where
    but : (text : List ℕ) → ((at : ℕ) → is_word_of text (token_of 0 at (codes "DEFINITIONS")) ≡ false) →
        ((at : ℕ) → is_word_of text (token_of 5 at (codes "{")) ≡ false) → (t : Token) → is_behind_name t ≡ true →
        is_word_of text t ≡ false
    but text word sign = behind_not (is_word_of text) word sign

    named : passes is_name (slice_get tokens i) ≡ true → passes is_behind_name (slice_get tokens (i + 1)) ≡ true →
        Stops tokens templates closed class_level i k × Stops tokens templates closed member i k
    named n h = (
      class_stops (behind tokens i is_class_word (behind_not is_class_word (λ at. refl) (λ at. refl)) h) order (λ l. past n),
      member_stops_by is_behind_name (but (codes "BEHAVIOUR") (λ at. refl) (λ at. refl)) (but (codes "ATTRIBUTE") (λ at. refl) (λ at. refl))
          (but (codes "PARAMETER") (λ at. refl) (λ at. refl)) (but (codes "ACTION") (λ at. refl) (λ at. refl))
          (but (codes "NOTIFICATION") (λ at. refl) (λ at. refl)) h order (λ l. past n),
    )

    go : (n h l : Bool) → passes is_name (slice_get tokens i) ≡ n →
        passes is_behind_name (slice_get tokens (i + 1)) ≡ h → passes is_label (slice_get tokens i) ≡ l →
        ((n && h) || not l) ≡ true →
        Stops tokens templates closed class_level i k × Stops tokens templates closed member i k
    go n h false p q r e = unlabelled r order
    go true true true p q r e = named p q
    go true false true p q r e = absurd (cc e)
    go false h true p q r e = absurd (cc e)

-- a module goes past its name
name_past : {tokens : List Token} {i k : ℕ} → ((j : ℕ) → Begins tokens asn1 (Named modules) i j → j ≤ k) →
    passes is_name (slice_get tokens i) ≡ true → i + 1 ≤ k
name_past {tokens} {i} furthest e =
    furthest (i + 1) (B.named (B.front (B.front (B.token (record { passed = e }) refl))))

pub module_read : {tokens : List Token} {i k : ℕ} {a : Tree} → Sections tokens i false →
    has_no_template tokens i ≡ true → IsSpelt tokens asn1 closed (Named modules) i a k → IsUnit tokens i (ModuleUnit a) k
module_read s e one = let quiet = templates_stop e (spelt_order one) (name_past one.furthest) in
    module_unit s one quiet.0 quiet.1 (section_stops s (spelt_order one))

pub module_failed : {tokens : List Token} {i : ℕ} {r : SyntaxRefusal} → Sections tokens i false →
    has_no_template tokens i ≡ true → Fails tokens asn1 closed (Named modules) i r → (k : ℕ) → r ≡ Syntax k →
    IsUnitFault tokens i k
module_failed s e fails k is = let one = fails.fault k is in
    let quiet = templates_stop e one.stops.order (name_past one.stops.furthest) in
    unit_fault (a_module s one.begun) quiet.0 quiet.1 (λ f. one.stops) (section_stops s one.stops.order)

-- ---- templates

-- no module begins here, and a label stands here
record Labelled (tokens : List Token) (i : ℕ) : Type 0 where
  pub no_module : (passes is_name (slice_get tokens i) && passes is_behind_name (slice_get tokens (i + 1))) ≡ false
  pub label : passes is_label (slice_get tokens i) ≡ true

labelled : (tokens : List Token) (i : ℕ) → has_no_template tokens i ≡ false → Labelled tokens i
labelled tokens i e = record { no_module = first _ _ e; label = second _ _ e }
  where
    first : (a b : Bool) → (a || not b) ≡ false → a ≡ false
    first true b e = absurd (cc e)
    first false b e = refl

    second : (a b : Bool) → (a || not b) ≡ false → b ≡ true
    second true b e = absurd (cc e)
    second false true e = refl
    second false false e = absurd (cc e)

-- no module begins where one token more is begun
module_quiet : {tokens : List Token} {i k : ℕ} → has_no_template tokens i ≡ false → i ≤ k → i + 1 ≤ k →
    ModuleStops tokens i k
module_quiet {tokens} {i} e order past f = module_stops (labelled tokens i e).no_module order (λ h. past)

class_past : {tokens : List Token} {i k : ℕ} → has_no_template tokens i ≡ false →
    ((j : ℕ) → Begins tokens templates class_level i j → j ≤ k) → i + 1 ≤ k
class_past {tokens} {i} e furthest =
    furthest (i + 1) (B.first (label_first packages refl (labelled tokens i e).label))

member_past : {tokens : List Token} {i k : ℕ} → has_no_template tokens i ≡ false →
    ((j : ℕ) → Begins tokens templates member i j → j ≤ k) → i + 1 ≤ k
member_past {tokens} {i} e furthest =
    furthest (i + 1) (B.first (label_first behaviours refl (labelled tokens i e).label))

-- a template of the other six kinds doesn't begin where one of these three does
class_only : {tokens : List Token} {i k : ℕ} → is_template tokens i is_class_word ≡ true → i ≤ k → i + 1 ≤ k →
    Stops tokens templates closed member i k
class_only {tokens} {i} e order past = member_stops_by is_class_word (but (codes "BEHAVIOUR") (λ at. refl) (λ at. refl)
    (λ at. refl)) (but (codes "ATTRIBUTE") (λ at. refl) (λ at. refl) (λ at. refl))
    (but (codes "PARAMETER") (λ at. refl) (λ at. refl) (λ at. refl))
    (but (codes "ACTION") (λ at. refl) (λ at. refl) (λ at. refl))
    (but (codes "NOTIFICATION") (λ at. refl) (λ at. refl) (λ at. refl))
    (second_so (passes is_label (slice_get tokens i)) (passes is_class_word (slice_get tokens (i + 1))) e) order
    (λ h. past)
  where
    but : (text : List ℕ) → ((at : ℕ) → is_word_of text (token_of 0 at (codes "MANAGED")) ≡ false) →
        ((at : ℕ) → is_word_of text (token_of 0 at (codes "PACKAGE")) ≡ false) →
        ((at : ℕ) → is_word_of text (token_of 0 at (codes "NAME")) ≡ false) → (t : Token) → is_class_word t ≡ true →
        is_word_of text t ≡ false
    but text p q r = at_one_of (codes "MANAGED" ∷ codes "PACKAGE" ∷ codes "NAME" ∷ []) false (is_word_of text)
        (p, (q, (r, tt)))

pub class_read : {tokens : List Token} {i k : ℕ} {a : Tree} → Sections tokens i false →
    has_no_template tokens i ≡ false → is_template tokens i is_class_word ≡ true →
    IsSpelt tokens templates closed class_level i a k → IsUnit tokens i (ClassUnit a) k
class_read s e c one = let past = class_past e one.furthest in
    class_unit one (class_only c (spelt_order one) past) (module_quiet e (spelt_order one) past)
    (section_stops s (spelt_order one))

pub class_failed : {tokens : List Token} {i : ℕ} {r : SyntaxRefusal} → Sections tokens i false →
    has_no_template tokens i ≡ false → is_template tokens i is_class_word ≡ true →
    Fails tokens templates closed class_level i r → (k : ℕ) → r ≡ Syntax k → IsUnitFault tokens i k
class_failed s e c fails k is = let one = fails.fault k is in let past = class_past e one.stops.furthest in
    unit_fault (a_class one.begun) one.stops (class_only c one.stops.order past)
    (module_quiet e one.stops.order past) (section_stops s one.stops.order)

pub member_read : {tokens : List Token} {i k : ℕ} {a : Tree} → Sections tokens i false →
    has_no_template tokens i ≡ false → is_template tokens i is_class_word ≡ false →
    IsSpelt tokens templates closed member i a k → IsUnit tokens i (MemberUnit a) k
member_read s e c one = let past = member_past e one.furthest in
    member_unit one (class_stops c (spelt_order one) (λ h. past)) (module_quiet e (spelt_order one) past)
    (section_stops s (spelt_order one))

pub member_failed : {tokens : List Token} {i : ℕ} {r : SyntaxRefusal} → Sections tokens i false →
    has_no_template tokens i ≡ false → is_template tokens i is_class_word ≡ false →
    Fails tokens templates closed member i r → (k : ℕ) → r ≡ Syntax k → IsUnitFault tokens i k
member_failed s e c fails k is = let one = fails.fault k is in let past = member_past e one.stops.furthest in
    unit_fault (a_member one.begun) (class_stops c one.stops.order (λ h. past)) one.stops
    (module_quiet e one.stops.order past) (section_stops s one.stops.order)

-- the exit of a `?`
pub exit_unit : {tokens : List Token} {i : ℕ} {e : SyntaxRefusal} (r : Result (DocumentUnit × ℕ) SyntaxRefusal) →
    IsErrAnd r (λ d. d ≡ e) → ((k : ℕ) → e ≡ Syntax k → IsUnitFault tokens i k) → ReadsUnit tokens i r
exit_unit (Ok x) is fails = absurd is
exit_unit {tokens} {i} (Err d) is fails = λ k same. fails k (sym is ∙ same)
