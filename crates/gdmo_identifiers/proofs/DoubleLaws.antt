-- DoubleLaws: a place of the registrations stands behind another of the same list of arcs exactly where an earlier
-- template is registered under the same arcs.
use Rattle.std.proofs.Common.{◌≡◌, ◌∙◌, ◌<◌, ◌∷◌, [], ℕ, zero, suc, List, Option, None, Some, refl, sym}
use Rattle.std.proofs.Common.{ap, arith, inl, inr, length, subst, get_or}
use Rattle.std.specs.Prelude.{◌==◌, ◌&&◌, ◌||◌, Contains, nat_lt, slice_get}
use Rattle.std.proofs.lemmas.Option.{none-some, same_Some}
use Rattle.token_grammar.specs.declared.token.Token.{Token}
use Rattle.key_numbers.specs.NumberedLists.{AreOnce, IsList, Row}
use Rattle.key_numbers.proofs.ListLaws.{one_list, one_number}
use Rattle.gdmo_names.specs.declared.first_fault.LabelFault.{LabelFault as NotedFault}
use Rattle.gdmo_names.specs.DocumentTemplates.{templates}
use Rattle.gdmo_names.specs.DoubleNames.{DoubleIdentifierAt, stands_earlier}
use Rattle.gdmo_names.specs.FaultSets.{AnyOf, FaultSet, Notes}
use Rattle.gdmo_names.specs.FirstLabelFault.{LabelFault}
use Rattle.gdmo_names.specs.FirstNames.{HasArcs, IsIdentifier, Registers}
use Rattle.gdmo_names.specs.InStep.{AreEach}
use Rattle.gdmo_names.specs.PartTerms.{Placed, PartTerms}
use Rattle.gdmo_names.specs.TemplateTerms.{IdentifierTerm}
use Rattle.gdmo_names.proofs.NotingLaws.{noted_by}
use Rattle.identifier_arcs.proofs.KnownLaws.{one_arcs}
use Rattle.gdmo_identifiers.specs.declared.registrations.Registration.{Registration}
use Rattle.gdmo_identifiers.specs.IdentifierFaults.{DoubleIdentifiers}
use Rattle.gdmo_identifiers.specs.IdentifierTables.{IsRegistered, IsRegistration}
use Rattle.gdmo_identifiers.specs.Registrations.{IsLater, LaterOf, is_earlier}

-- ---- elements of lists that go in step

pub each_there : {A B : Type 0} (Is : A → B → Type 0) (xs : List A) (ys : List B) (k : ℕ) (y : B) →
    AreEach Is xs ys → slice_get ys k ≡ Some y → (x : A) × (Contains xs x) × Is x y
each_there Is [] [] k y h at = absurd (none-some y at)
each_there Is [] (z ∷ zs) k y h at = absurd h
each_there Is (x ∷ xs) [] k y h at = absurd h
each_there Is (x ∷ xs) (z ∷ zs) zero y h at = (x, (0, omega arith, refl), subst (Is x) (same_Some z y at) h.0)
each_there Is (x ∷ xs) (z ∷ zs) (suc k) y h at =
    let found = each_there Is xs zs k y h.1 at in
    (found.0, (suc found.1.0, (let w = found.1.1 in omega (arith, w)), found.1.2), found.2)

pub there_each : {A B : Type 0} (Is : A → B → Type 0) (xs : List A) (ys : List B) (x : A) → AreEach Is xs ys →
    Contains xs x → (k : ℕ) × (y : B) × (slice_get ys k ≡ Some y) × Is x y
there_each {A} {B} Is xs ys x h stands = at xs ys stands.0 h stands.1 stands.2
  where
    at : (xs : List A) (ys : List B) (k : ℕ) → AreEach Is xs ys → k < length xs → get_or xs k x ≡ x →
        (j : ℕ) × (y : B) × (slice_get ys j ≡ Some y) × Is x y
    at [] ys k each within is = absurd (omega (arith, within))
    at (w ∷ ws) [] k each within is = absurd each
    at (w ∷ ws) (z ∷ zs) zero each within is = (0, z, refl, subst (λ v. Is v z) is each.0)
    at (w ∷ ws) (z ∷ zs) (suc k) each within is =
        let found = at ws zs k each.1 (omega (arith, within)) is in (suc found.0, found.1, found.2, found.3)

-- ---- faults of elements of a list

any_there : {X : Type 0} (Faults : X → FaultSet) (xs : List X) (k : ℕ) (x : X) → slice_get xs k ≡ Some x →
    (kind : LabelFault) (document token : ℕ) → Faults x kind document token → AnyOf Faults xs kind document token
any_there Faults [] k x at kind document token fault = absurd (none-some x at)
any_there Faults (y ∷ ys) zero x at kind document token fault =
    inl (subst (λ z. Faults z kind document token) (sym (same_Some y x at)) fault)
any_there Faults (y ∷ ys) (suc k) x at kind document token fault =
    inr (any_there Faults ys k x at kind document token fault)

there_any : {X : Type 0} (Faults : X → FaultSet) (xs : List X) (kind : LabelFault) (document token : ℕ) →
    AnyOf Faults xs kind document token → (k : ℕ) × (x : X) × (slice_get xs k ≡ Some x) × Faults x kind document token
there_any Faults [] kind document token fault = absurd fault
there_any Faults (y ∷ ys) kind document token (inl here) = (0, y, refl, here)
there_any Faults (y ∷ ys) kind document token (inr behind) =
    let found = there_any Faults ys kind document token behind in (suc found.0, found.1, found.2, found.3)

-- ---- registrations of one list of arcs

earlier_same : (a b : Registration) (one other : Placed) (x y : IdentifierTerm) → a.document ≡ one.document →
    a.brace.now ≡ x.brace → b.document ≡ other.document → b.brace.now ≡ y.brace →
    is_earlier a b ≡ stands_earlier one x other y
earlier_same a b one other x y p q r s =
    λ i. nat_lt (p i) (r i) || p i == r i && nat_lt (q i).at (s i).at

module _ (parts : PartTerms) (row : Row) (once : AreOnce row) (xs : List (Option Registration))
    (each : AreEach (IsRegistration parts row) (templates parts) xs) where
  -- a place, with the template that is registered there
  abbrev Stands : Registration → Type 0
  Stands r = (by : Placed) × (Contains (templates parts) by) × IsRegistered parts row by r

  stands_at : (k : ℕ) (r : Registration) → slice_get xs k ≡ Some (Some r) → Stands r
  stands_at k r at = each_there (IsRegistration parts row) (templates parts) xs k (Some r) each at

  double_of : (own : Registration) → Stands own → (later : IsLater xs own) → Stands later.first → (document token : ℕ) →
      own.document ≡ document → own.brace.now.at ≡ token → DoubleIdentifierAt parts document token
  double_of own one later first document token is_in is_at =
      let arcs : first.2.arcs ≡ one.2.arcs =
      one_list (subst (λ n. IsList row n first.2.arcs) later.same first.2.list) one.2.list in record {
        later = one.0;
        identifier = one.2.x;
        registers = record { stands = one.1; is = one.2.is };
        first = first.0;
        first_identifier = first.2.x;
        first_registers = record { stands = first.1; is = first.2.is };
        before = sym (earlier_same later.first own first.0 one.0 first.2.x one.2.x first.2.document first.2.brace
            one.2.document one.2.brace) ∙ later.before;
        arcs = one.2.arcs;
        is = one.2.good;
        first_is = subst (IsIdentifier parts first.2.x) arcs first.2.good;
        is_in = sym one.2.document ∙ is_in;
        is_brace = ap (λ (t : Token). t.at) (sym one.2.brace) ∙ is_at;
      }

  to_double : (kind : LabelFault) (document token : ℕ) → AnyOf (LaterOf xs) xs kind document token →
      DoubleIdentifiers parts kind document token
  to_double kind document token fault =
      let found = there_any (LaterOf xs) xs kind document token fault in by found.0 found.1 found.2 found.3
    where
      by : (k : ℕ) (own : Option Registration) → slice_get xs k ≡ Some own →
          LaterOf xs own kind document token → DoubleIdentifiers parts kind document token
      by k None at none_there = absurd none_there
      by k (Some own) at h = record {
        double = double_of own (stands_at k own at) h.0 (stands_at h.0.k h.0.first h.0.stands) document token h.2 h.3;
        is_double = h.1;
      }

  -- a template that is registered under these arcs stands at some place
  record IsThere (by : Placed) (x : IdentifierTerm) (arcs : List ℕ) : Type 0 where
    pub k : ℕ
    pub own : Registration
    pub at : slice_get xs k ≡ Some (Some own)
    pub list : IsList row own.list arcs
    pub document : own.document ≡ by.document
    pub brace : own.brace.now ≡ x.brace

  is_there : (by : Placed) (x : IdentifierTerm) (arcs : List ℕ) → Registers parts by x → IsIdentifier parts x arcs →
      IsThere by x arcs
  is_there by x arcs registers is =
      let found = there_each (IsRegistration parts row) (templates parts) xs by each registers.stands in
      told found.0 found.1 found.2 found.3
    where
      told : (k : ℕ) (own : Option Registration) → slice_get xs k ≡ Some own → IsRegistration parts row by own →
          IsThere by x arcs
      told k None at never = absurd (never x arcs registers.is is)
      told k (Some own) at r =
          let same : r.x ≡ x = same_Some r.x x (sym r.is ∙ registers.is) in record {
            k = k;
            own = own;
            at = at;
            list = subst (IsList row own.list)
                (one_arcs (subst (λ z. HasArcs parts z r.arcs) same r.good.has) is.has) r.list;
            document = r.document;
            brace = r.brace ∙ ap (λ (z : IdentifierTerm). z.brace) same;
          }

  from_double : (kind : LabelFault) (document token : ℕ) → DoubleIdentifiers parts kind document token →
      AnyOf (LaterOf xs) xs kind document token
  from_double kind document token fault =
      let d = fault.double in
      let one = is_there d.later d.identifier d.arcs d.registers d.is in
      let first = is_there d.first d.first_identifier d.arcs d.first_registers d.first_is in
      any_there (LaterOf xs) xs one.k (Some one.own) one.at kind document token (
        record {
          k = first.k;
          first = first.own;
          stands = first.at;
          same = one_number once first.list one.list refl;
          before = earlier_same first.own one.own d.first d.later d.first_identifier d.identifier first.document
              first.brace one.document one.brace ∙ d.before;
        },
        fault.is_double,
        one.document ∙ d.is_in,
        ap (λ (t : Token). t.at) one.brace ∙ d.is_brace,
      )

  pub doubles_noted : {before after : Option NotedFault} → Notes (AnyOf (LaterOf xs) xs) before after →
      Notes (DoubleIdentifiers parts) before after
  doubles_noted h = noted_by (AnyOf (LaterOf xs) xs) (DoubleIdentifiers parts) to_double from_double h
