-- ModuleNameLaws: a table of names that were told in turn, and which names of modules and of assignments come again.
use Rattle.std.specs.Prelude.{◌≡◌, ◌<◌, ◌≤◌, ◌⊎◌, ◌↔◌, ◌+◌, ℕ, zero, suc, List, [], ◌∷◌, Bool, true, false}
use Rattle.std.specs.Prelude.{Option, None, Some, is_some, length, option_map, refl, slice_get, if◌then◌else◌}
use Rattle.std.specs.Borrow.{Bor}
use Rattle.std.specs.Cmp.Lexicographic.{bytes_decides}
use Rattle.std.proofs.Common.{ap, arith, inl, inr, sym, subst, ◌∙◌}
use Rattle.std.proofs.lemmas.Bool.{true≢false}
use Rattle.std.proofs.lemmas.Option.{same_Some, slice_get_within}
use Rattle.indexmap.specs.IndexMap.{IndexMap}
use Rattle.token_grammar.specs.declared.token.Token.{Token}
use Rattle.asn1_names.specs.FirstNames.{found}
use Rattle.asn1_names.specs.ModuleTerms.{AssignmentTerm, ModuleTerm}
use Rattle.asn1_names.specs.NameMeaning.{first_module, is_called, module_meaning}
use Rattle.asn1_names.specs.NameMeaning.ModuleMeaning.{Standard, ModuleAt, NoModule}
use Rattle.asn1_names.specs.StandardModule.{is_same_name, standard_module_name}
use Rattle.gdmo_names.specs.DoubleNames.{IsAssignedAgain, IsModuleAgain}
use Rattle.gdmo_names.specs.DoubleNames.DoubleLabelAt.{module_name, assigned_name}
use Rattle.gdmo_names.specs.DoubleNames.IsModuleAgain.{standard, earlier}
use Rattle.gdmo_names.specs.FaultSets.{Notes, OneFault}
use Rattle.gdmo_names.specs.FirstLabelFault.{HasFault, LabelFault}
use Rattle.gdmo_names.specs.FirstLabelFault.LabelFault.{LabelDouble}
use Rattle.gdmo_names.specs.PartTerms.{PartTerms, module_terms_of}
use Rattle.gdmo_names.specs.declared.first_fault.LabelFault.{LabelFault as NotedFault}
use Rattle.gdmo_names.proofs.NotingLaws.{noted_by}
use Rattle.gdmo_types.specs.ModuleNames.{AreModuleNames, AssignedAgain, DoubleModuleNames, GainsName, has_name}

-- ---- names that were told in turn

-- one of the first k elements is called so
pub record CalledBefore {X : Type 0} (name_of : X → Token) (xs : List X) (k : ℕ) (name : List ℕ) : Type 0 where
  pub place : ℕ
  pub element : X
  pub before : place < k
  pub at : slice_get xs place ≡ Some element
  pub called : (name_of element).text ≡ name

called_more : {X : Type 0} (name_of : X → Token) (xs : List X) (k : ℕ) (name : List ℕ) →
    CalledBefore name_of xs k name → CalledBefore name_of xs (k + 1) name
called_more name_of xs k name was = record {
  place = was.place;
  element = was.element;
  before = (let less = was.before in omega (arith, less));
  at = was.at;
  called = was.called;
}

below : (j k : ℕ) → j < k + 1 → (j < k) ⊎ (j ≡ k)
below j k h = grind arith

called_last : {X : Type 0} (name_of : X → Token) (xs : List X) (k : ℕ) (x : X) (name : List ℕ) →
    slice_get xs k ≡ Some x → CalledBefore name_of xs (k + 1) name →
    CalledBefore name_of xs k name ⊎ ((name_of x).text ≡ name)
called_last name_of xs k x name at was = by (below was.place k was.before)
  where
    by : (was.place < k) ⊎ (was.place ≡ k) → CalledBefore name_of xs k name ⊎ ((name_of x).text ≡ name)
    by (inl h) = inl (record {
      place = was.place;
      element = was.element;
      before = h;
      at = was.at;
      called = was.called;
    })
    by (inr h) = inr (subst (λ y. (name_of y).text ≡ name)
        (same_Some was.element x (sym was.at ∙ subst (λ n. slice_get xs n ≡ Some x) (sym h) at)) was.called)

-- a table has the names of the first k elements, and those that it had at first
abbrev pub HasNames : {X V S : Type 0} → (List ℕ → Type 0) → (X → Token) → List X → ℕ →
    IndexMap (Bor (List ℕ)) V S → Type 0
HasNames First name_of xs k table =
    (name : List ℕ) → (has_name table name ≡ true) ↔ (First name ⊎ CalledBefore name_of xs k name)

pub names_step : {X V S : Type 0} (First : List ℕ → Type 0) (name_of : X → Token) (xs : List X) (k : ℕ) (x : X)
    (before after : IndexMap (Bor (List ℕ)) V S) → slice_get xs k ≡ Some x →
    HasNames First name_of xs k before → GainsName before after (name_of x).text →
    HasNames First name_of xs (k + 1) after
names_step First name_of xs k x before after at has gains name = (
  λ now. elim ((gains name).0 now) as (λ _. First name ⊎ CalledBefore name_of xs (k + 1) name) [
    | inl was ↦ elim ((has name).0 was) as (λ _. First name ⊎ CalledBefore name_of xs (k + 1) name) [
      | inl first ↦ inl first
      | inr called ↦ inr (called_more name_of xs k name called)
    ]
    | inr is ↦ inr (record {
      place = k;
      element = x;
      before = omega arith;
      at = at;
      called = is;
    })
  ],
  λ one. elim one as (λ _. has_name after name ≡ true) [
    | inl first ↦ (gains name).1 (inl ((has name).1 (inl first)))
    | inr called ↦ elim (called_last name_of xs k x name at called) as (λ _. has_name after name ≡ true) [
      | inl earlier_one ↦ (gains name).1 (inl ((has name).1 (inr earlier_one)))
      | inr is ↦ (gains name).1 (inr is)
    ]
  ],
)

-- ---- one name

pub same_called : (name : List ℕ) (token : Token) → is_called name token ≡ true → token.text ≡ name
same_called name token h = (bytes_decides token.text name).0 h

pub called_same : (name : List ℕ) (token : Token) → token.text ≡ name → is_called name token ≡ true
called_same name token h = (bytes_decides token.text name).1 h

abbrev pub Nothing_first : List ℕ → Type 0
Nothing_first name = ⊥

none_is : {V : Type 0} (o : Option V) → o ≡ None → ¬ (is_some o ≡ true)
none_is o is h = true≢false (sym (sym (ap is_some is) ∙ h))

some_kept : {V : Type 0} (o : Option V) (test : Bool) (v : V) → is_some o ≡ true →
    is_some (if test then Some v else o) ≡ true
some_kept o true v h = refl
some_kept o false v h = h

some_of : {V : Type 0} (o : Option V) (test : Bool) (v : V) → is_some (if test then Some v else o) ≡ true →
    (is_some o ≡ true) ⊎ (test ≡ true)
some_of o true v h = inr refl
some_of o false v h = inl h

some_now : {V : Type 0} (o : Option V) (test : Bool) (v : V) → test ≡ true →
    is_some (if test then Some v else o) ≡ true
some_now o true v h = refl
some_now o false v h = absurd (true≢false (sym h))

-- a table that was told a name
pub gained : {V S : Type 0} (before after : IndexMap (Bor (List ℕ)) V S) (name key : List ℕ) (v : V) → key ≡ name →
    ((other : List ℕ) → found after other ≡ (if is_same_name key other then Some v else found before other)) →
    GainsName before after name
gained before after name key v key_is updated other = (
  λ h. elim (some_of (found before other) (is_same_name key other) v (sym (ap is_some (updated other)) ∙ h)) as
      (λ _. (has_name before other ≡ true) ⊎ (name ≡ other)) [
        | inl was ↦ inl was
        | inr same ↦ inr (sym key_is ∙ (bytes_decides key other).0 same)
      ],
  λ one. ap is_some (updated other) ∙
      elim one as (λ _. is_some (if is_same_name key other then Some v else found before other) ≡ true) [
        | inl was ↦ some_kept (found before other) (is_same_name key other) v was
        | inr same ↦ some_now (found before other) (is_same_name key other) v
            ((bytes_decides key other).1 (key_is ∙ same))
      ],
)

pub got_some : {V : Type 0} (o : Option (Bor V)) (p : Option V) → option_map (λ (x : Bor V). x.now) o ≡ p →
    is_some o ≡ true → is_some p ≡ true
got_some None p is h = absurd (true≢false (sym h))
got_some (Some x) p is h = ap is_some (sym is)

pub got_none : {V : Type 0} (o : Option (Bor V)) (p : Option V) → option_map (λ (x : Bor V). x.now) o ≡ p →
    is_some o ≡ false → ¬ (is_some p ≡ true)
got_none None p is h has = true≢false (sym has ∙ ap is_some (sym is))
got_none (Some x) p is h has = true≢false h

pub got_nothing : {V : Type 0} (o : Option (Bor V)) (p : Option V) → option_map (λ (x : Bor V). x.now) o ≡ p →
    o ≡ None → p ≡ None
got_nothing {V} o p is gone = sym is ∙ ap (option_map (λ (x : Bor V). x.now)) gone

pub got_one : {V : Type 0} (o : Option (Bor V)) (p : Option V) (x : Bor V) →
    option_map (λ (y : Bor V). y.now) o ≡ p → o ≡ Some x → ¬ (p ≡ None)
got_one {V} o p x is there gone = some_none x.now (sym (ap (option_map (λ (y : Bor V). y.now)) there) ∙ is ∙ gone)
  where
    some_none : (v : V) → Some v ≡ None → ⊥
    some_none v h = absurd (cc)

-- ---- names that are assigned again

abbrev pub assigned : AssignmentTerm → Token
assigned x = x.name

pub assigned_noted : {V S : Type 0} (x : ModuleTerm) (i : ℕ) (assignment : AssignmentTerm)
    (table : IndexMap (Bor (List ℕ)) V S) (one next : Option NotedFault) →
    HasNames Nothing_first assigned x.assignments i table →
    Notes (OneFault (has_name table assignment.name.text ≡ true) LabelDouble x.document assignment.name.at) one next →
    Notes (AssignedAgain x i assignment) one next
assigned_noted x i assignment table one next has h =
    noted_by (OneFault (has_name table assignment.name.text ≡ true) LabelDouble x.document assignment.name.at)
    (AssignedAgain x i assignment)
    (λ k d t fault. (again ((has assignment.name.text).0 fault.0), fault.1, fault.2, fault.3))
    (λ k d t fault. ((has assignment.name.text).1 (inr (called_of fault.0)), fault.1, fault.2, fault.3)) h
  where
    again : ⊥ ⊎ CalledBefore assigned x.assignments i assignment.name.text →
        IsAssignedAgain x.assignments i assignment.name
    again (inl nothing) = absurd nothing
    again (inr was) = record {
      k = was.place;
      before = was.before;
      first = was.element;
      is_first = was.at;
      same = called_same was.element.name.text assignment.name (sym was.called);
    }

    called_of : IsAssignedAgain x.assignments i assignment.name →
        CalledBefore assigned x.assignments i assignment.name.text
    called_of is = record {
      place = is.k;
      element = is.first;
      before = is.before;
      at = is.is_first;
      called = sym (same_called is.first.name.text assignment.name is.same);
    }

-- ---- names of modules that come again

abbrev pub module_called : ModuleTerm → Token
module_called x = x.name

abbrev pub IsStandardName : List ℕ → Type 0
IsStandardName name = standard_module_name ≡ name

pub module_noted : {V S : Type 0} (ms : List ModuleTerm) (m : ℕ) (x : ModuleTerm)
    (table : IndexMap (Bor (List ℕ)) V S) (one next : Option NotedFault) →
    HasNames IsStandardName module_called ms m table →
    Notes (OneFault (has_name table x.name.text ≡ true) LabelDouble x.document x.name.at) one next →
    Notes (OneFault (IsModuleAgain ms m x.name) LabelDouble x.document x.name.at) one next
module_noted ms m x table one next has h =
    noted_by (OneFault (has_name table x.name.text ≡ true) LabelDouble x.document x.name.at)
    (OneFault (IsModuleAgain ms m x.name) LabelDouble x.document x.name.at)
    (λ k d t fault. (again ((has x.name.text).0 fault.0), fault.1, fault.2, fault.3))
    (λ k d t fault. ((has x.name.text).1 (called_of fault.0), fault.1, fault.2, fault.3)) h
  where
    again : IsStandardName x.name.text ⊎ CalledBefore module_called ms m x.name.text → IsModuleAgain ms m x.name
    again (inl is) = standard (called_same standard_module_name x.name (sym is))
    again (inr was) = earlier was.place was.before was.at (called_same was.element.name.text x.name (sym was.called))

    called_of : IsModuleAgain ms m x.name →
        IsStandardName x.name.text ⊎ CalledBefore module_called ms m x.name.text
    called_of (standard is) = inl (sym (same_called standard_module_name x.name is))
    called_of (earlier k {x = y} before at is) = inr (record {
      place = k;
      element = y;
      before = before;
      at = at;
      called = sym (same_called y.name.text x.name is);
    })

-- ---- the names of all modules

is_none : {V : Type 0} (o : Option V) → ¬ (is_some o ≡ true) → o ≡ None
is_none None h = refl
is_none (Some v) h = absurd (h refl)

no_module : (m : ℕ) → ModuleAt m ≡ NoModule → ⊥
no_module m h = absurd (cc)

-- no module has a name exactly where the name means none
tested_none : (test : Bool) (name : List ℕ) (m : ℕ) (y : ModuleTerm) (ys : List ModuleTerm) (k : ℕ) (x : ModuleTerm) →
    is_called name y.name ≡ test → (if test then ModuleAt m else first_module name (m + 1) ys) ≡ NoModule →
    slice_get (y ∷ ys) k ≡ Some x → x.name.text ≡ name →
    (first_module name (m + 1) ys ≡ NoModule → (j : ℕ) → slice_get ys j ≡ Some x → ⊥) → ⊥
tested_none true name m y ys k x h is at called rest = no_module m is
tested_none false name m y ys zero x h is at called rest = true≢false (sym (called_same name y.name
    (ap (λ (z : ModuleTerm). z.name.text) (same_Some y x at) ∙ called)) ∙ h)
tested_none false name m y ys (suc j) x h is at called rest = rest is j at

first_none : (name : List ℕ) (m : ℕ) (ms : List ModuleTerm) → first_module name m ms ≡ NoModule → (k : ℕ)
    (x : ModuleTerm) → slice_get ms k ≡ Some x → x.name.text ≡ name → ⊥
unfolding first_module
first_none name m [] is k x at called = absurd (cc)
first_none name m (y ∷ ys) is k x at called = tested_none (is_called name y.name) name m y ys k x refl is at called
    (λ further j there. first_none name (m + 1) ys further j x there called)

tested_first : (test : Bool) (name : List ℕ) (m : ℕ) (ys : List ModuleTerm) → (test ≡ true → ⊥) →
    first_module name (m + 1) ys ≡ NoModule →
    (if test then ModuleAt m else first_module name (m + 1) ys) ≡ NoModule
tested_first true name m ys not_so rest = absurd (not_so refl)
tested_first false name m ys not_so rest = rest

none_first : (name : List ℕ) (m : ℕ) (ms : List ModuleTerm) →
    ((k : ℕ) (x : ModuleTerm) → slice_get ms k ≡ Some x → x.name.text ≡ name → ⊥) →
    first_module name m ms ≡ NoModule
unfolding first_module
none_first name m [] none_there = refl
none_first name m (y ∷ ys) none_there = tested_first (is_called name y.name) name m ys
    (λ h. none_there 0 y refl (same_called name y.name h))
    (none_first name (m + 1) ys (λ k x at called. none_there (suc k) x at called))

pub modules_named : {V S : Type 0} (ms : List ModuleTerm) (k : ℕ) (table : IndexMap (Bor (List ℕ)) V S) →
    length ms ≤ k → HasNames IsStandardName module_called ms k table → AreModuleNames ms table
unfolding module_meaning
modules_named ms k table past has name = (
  λ none_found. by (is_same_name name standard_module_name) refl (none_is (found table name) none_found),
  λ none_meant. is_none (found table name) (λ here. lost (is_same_name name standard_module_name) refl none_meant
      ((has name).0 here)),
)
  where
    by : (test : Bool) → is_same_name name standard_module_name ≡ test → ¬ (has_name table name ≡ true) →
        (if is_same_name name standard_module_name then Standard else first_module name 0 ms) ≡ NoModule
    by true h not_there =
        absurd (not_there ((has name).1 (inl (sym ((bytes_decides name standard_module_name).0 h)))))
    by false h not_there = ap (λ b. if b then Standard else first_module name 0 ms) h ∙
        none_first name 0 ms (λ j x at called. not_there ((has name).1 (inr (record {
          place = j;
          element = x;
          before = (let within = slice_get_within ms j x at in omega (arith, within, past));
          at = at;
          called = called;
        }))))

    not_standard : Standard ≡ NoModule → ⊥
    not_standard h = absurd (cc)

    lost : (test : Bool) → is_same_name name standard_module_name ≡ test →
        (if is_same_name name standard_module_name then Standard else first_module name 0 ms) ≡ NoModule →
        IsStandardName name ⊎ CalledBefore module_called ms k name → ⊥
    lost true h is one =
        not_standard (sym (ap (λ b. if b then Standard else first_module name 0 ms) h) ∙ is)
    lost false h is (inl same) =
        true≢false (sym ((bytes_decides name standard_module_name).1 (sym same)) ∙ h)
    lost false h is (inr was) =
        first_none name 0 ms (sym (ap (λ b. if b then Standard else first_module name 0 ms) h) ∙ is) was.place
        was.element was.at was.called

-- ---- the sentence

-- what is noted of the names of modules is a fault
pub double_is_fault : (parts : PartTerms) (kind : LabelFault) (document token : ℕ) →
    DoubleModuleNames (module_terms_of parts) kind document token → HasFault parts kind document token
double_is_fault parts kind document token (m, x, at, inl (again, kind_is, is_in, is_at)) =
    subst (λ k. HasFault parts k document token) kind_is (module_name m at again is_in is_at)
double_is_fault parts kind document token (m, x, at, inr (i, assignment, there, (again, kind_is, is_in, is_at))) =
    subst (λ k. HasFault parts k document token) kind_is (assigned_name m i at there again is_in is_at)

-- each such fault is noted
pub module_name_noted : (parts : PartTerms) (m : ℕ) (x : ModuleTerm) (document token : ℕ) →
    slice_get (module_terms_of parts) m ≡ Some x → IsModuleAgain (module_terms_of parts) m x.name →
    x.document ≡ document → x.name.at ≡ token →
    DoubleModuleNames (module_terms_of parts) LabelDouble document token
module_name_noted parts m x document token at again is_in is_at = (m, x, at, inl (again, refl, is_in, is_at))

pub assigned_name_noted : (parts : PartTerms) (m i : ℕ) (x : ModuleTerm) (assignment : AssignmentTerm)
    (document token : ℕ) → slice_get (module_terms_of parts) m ≡ Some x →
    slice_get x.assignments i ≡ Some assignment → IsAssignedAgain x.assignments i assignment.name →
    x.document ≡ document → assignment.name.at ≡ token →
    DoubleModuleNames (module_terms_of parts) LabelDouble document token
assigned_name_noted parts m i x assignment document token at there again is_in is_at =
    (m, x, at, inr (i, assignment, there, (again, refl, is_in, is_at)))
