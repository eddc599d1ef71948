-- DefinedLaws: which assignments define a name, and that of these the one with the least number stands in the first
-- module that defines it.
use Rattle.std.proofs.Common.{◌≡◌, ◌<◌, ◌≤◌, ◌∙◌, ◌+◌, ◌∷◌, ◌++◌, [], ℕ, zero, suc, List, Bool, true, false}
use Rattle.std.proofs.Common.{Option, None, Some, refl, rules, sym, ap, arith, inl, inr, length}
use Rattle.std.specs.Cmp.Lexicographic.{same_text}
use Rattle.std.specs.Prelude.{slice_get, if◌then◌else◌, nat_lt}
use Rattle.std.proofs.Math.Path.{subst}
use Rattle.std.proofs.lemmas.Bool.{false≢true, ltb-true, ltb-false}
use Rattle.std.proofs.lemmas.Option.{none-some, same_Some}
use Rattle.asn1_names.specs.AssignmentNumbers.{Numbered, numbered_at}
use Rattle.asn1_names.specs.FirstNames.{first_of}
use Rattle.asn1_names.specs.ModuleTerms.{ModuleTerm}
use Rattle.asn1_names.specs.StandardModule.{is_same_name}
use Rattle.asn1_numbers.proofs.StandingLaws.{in_front, one_number_at, stands_at}
use Rattle.link_graphs.proofs.PlaceLaws.{IsPushed, get_before, get_last, get_push}
use Rattle.gdmo_first_names.proofs.OwnLaws.{own_value}
use Rattle.gdmo_first_names.specs.DefinedNames.{AreDefiners, AreDefinersBelow, DefinesAt}
use Rattle.gdmo_first_names.specs.DefinedNames.{TellsDefined, TellsFirstBelow}
use Rattle.gdmo_names.specs.FirstNames.{DefinesName, root_arc}
use Rattle.gdmo_names.specs.PartTerms.{PartTerms, module_terms_of}

-- ---- the number under which a name is defined

pub defined_number : (parts : PartTerms) (name : List ℕ) (m i : ℕ) → root_arc name ≡ None →
    DefinesName parts name m i →
    (k : ℕ) × (d : DefinesAt parts name k) × (d.numbered.in_module ≡ m) × (d.numbered.place ≡ i)
defined_number parts name m i no_root d =
    let own = (own_value (module_terms_of parts) m m i name d.of d.number d.text d.means).1 in (
      own.k,
      record {
        numbered = own.numbered;
        at = own.at;
        no_root = no_root;
        defines = subst (λ v. DefinesName parts name v own.numbered.place) (sym own.in_module)
            (subst (DefinesName parts name m) (sym own.place) d);
      },
      own.in_module,
      own.place,
    )

-- a definer has the name that it defines
pub defined_named : (parts : PartTerms) (name : List ℕ) (k : ℕ) (d : DefinesAt parts name k) →
    d.numbered.assignment.name.text ≡ name
defined_named parts name k d =
    let ms = module_terms_of parts in
    let own = (own_value ms d.numbered.in_module d.numbered.in_module d.numbered.place name d.defines.of
    d.defines.number d.defines.text d.defines.means).1 in
    let same : own.k ≡ k = one_number_at ms own.k k own.numbered d.numbered own.at d.at own.in_module own.place in
    let one : own.numbered ≡ d.numbered = same_Some own.numbered d.numbered (sym own.at ∙ ap (numbered_at ms) same ∙ d.at) in
    sym (ap (λ (x : Numbered). x.assignment.name.text) one) ∙ own.named

-- an earlier module's assignments have lower numbers
front_le : (ms : List ModuleTerm) (a b : ℕ) (y : ModuleTerm) → slice_get ms a ≡ Some y → a < b →
    in_front ms a + length y.assignments ≤ in_front ms b
front_le [] a b y at less = absurd (none-some y at)
front_le (z ∷ zs) zero zero y at less = absurd (omega (arith, less))
front_le (z ∷ zs) zero (suc b) y at less =
    let same = ap (λ (w : ModuleTerm). length w.assignments) (same_Some z y at) in omega (arith, same)
front_le (z ∷ zs) (suc a) zero y at less = absurd (omega (arith, less))
front_le (z ∷ zs) (suc a) (suc b) y at less =
    let rest = front_le zs a b y at (omega (arith, less)) in omega (arith, rest)

get_within : {X : Type 0} (xs : List X) (k : ℕ) (x : X) → slice_get xs k ≡ Some x → k < length xs
get_within [] k x h = absurd (none-some x h)
get_within (y ∷ ys) zero x h = omega arith
get_within (y ∷ ys) (suc k) x h = let rest = get_within ys k x h in omega (arith, rest)

pub before_number : (ms : List ModuleTerm) (j k : ℕ) (x y : Numbered) → numbered_at ms j ≡ Some x →
    numbered_at ms k ≡ Some y → x.in_module < y.in_module → j < k
before_number ms j k x y at there less =
    let s = stands_at ms j x at in
    let t = stands_at ms k y there in
    let a = s.module_is in
    let b = t.module_is in
    let front = front_le ms s.d t.d s.home s.home_at (omega (arith, a, b, less)) in
    let within = get_within s.home.assignments x.place x.assignment s.stands in
    let n = s.number_is in
    let m = t.number_is in
    omega (arith, front, within, n, m)

-- ---- what the least number tells

pub defined_told : (parts : PartTerms) (name : List ℕ) (most : ℕ) (told : Option ℕ) →
    ((k : ℕ) → DefinesAt parts name k → k < most) → TellsFirstBelow (DefinesAt parts name) most told →
    TellsDefined parts name told
defined_told parts name most None all tells = λ no_root m i d.
    let found = defined_number parts name m i no_root d in tells found.0 (all found.0 found.1) found.1
defined_told parts name most (Some k) all tells = record {
  numbered = tells.0.numbered;
  at = tells.0.at;
  no_root = tells.0.no_root;
  defines = record {
    defines = tells.0.defines;
    first = λ v j less d.
        let found = defined_number parts name v j tells.0.no_root d in
        tells.1 found.0 (before_number (module_terms_of parts) found.0 k found.1.numbered tells.0.numbered found.1.at
        tells.0.at (subst (λ w. w < tells.0.numbered.in_module) (sym found.2) less)) found.1;
  };
}

-- ---- one more number

pub first_step : (Has : List ℕ → ℕ → Type 0) (n : ℕ) (key : List ℕ) →
    ((name : List ℕ) → Has name n → name ≡ key) → Has key n → (name : List ℕ) (told : Option ℕ) →
    TellsFirstBelow (Has name) n told →
    TellsFirstBelow (Has name) (n + 1) (first_of told (if is_same_name key name then Some n else None))
first_step Has n key one has name (Some k) tells = tells
first_step Has n key one has name None tells = by (is_same_name key name) refl
  where
    itself : (b : Bool) → is_same_name name name ≡ b → b ≡ true
    itself b is = sym is ∙ search rules

    by : (b : Bool) → is_same_name key name ≡ b →
        TellsFirstBelow (Has name) (n + 1) (first_of None (if b then Some n else None))
    by true is = (subst (λ z. Has z n) (same_text key name (sym is)) has, λ other less. tells other less)
    by false is = λ number less h. at_end number less h (nat_lt number n) refl
      where
        at_end : (number : ℕ) → number < n + 1 → Has name number → (b : Bool) → nat_lt number n ≡ b → ⊥
        at_end number less h true before = tells number (ltb-true number n before) h
        at_end number less h false before =
            let end : number ≡ n = (let le = ltb-false number n before in omega (arith, less, le)) in
            let same = one name (subst (Has name) end h) in
            false≢true (sym is ∙ ap (λ z. is_same_name z name) (sym same) ∙ itself (is_same_name name name) refl)

pub first_past : (Has : ℕ → Type 0) (n : ℕ) (told : Option ℕ) → ¬ Has n → TellsFirstBelow Has n told →
    TellsFirstBelow Has (n + 1) told
first_past Has n (Some k) not_so tells = tells
first_past Has n None not_so tells = λ number less h. by number less h (nat_lt number n) refl
  where
    by : (number : ℕ) → number < n + 1 → Has number → (b : Bool) → nat_lt number n ≡ b → ⊥
    by number less h true before = tells number (ltb-true number n before) h
    by number less h false before =
        let end : number ≡ n = (let le = ltb-false number n before in omega (arith, less, le)) in
        not_so (subst Has end h)

-- ---- one more definer

pub definers_past : (parts : PartTerms) (n : ℕ) (numbers : List ℕ) →
    ((name : List ℕ) → ¬ DefinesAt parts name n) → AreDefinersBelow parts n numbers →
    AreDefinersBelow parts (n + 1) numbers
definers_past parts n numbers none are = record {
  rise = are.rise;
  below = λ k number at. (let less = are.below k number at in omega (arith, less));
  right = are.right;
  all = λ name number less d. by name number less d (nat_lt number n) refl;
}
  where
    by : (name : List ℕ) (number : ℕ) → number < n + 1 → DefinesAt parts name number → (b : Bool) →
        nat_lt number n ≡ b → (k : ℕ) × (slice_get numbers k ≡ Some number)
    by name number less d true before = are.all name number (ltb-true number n before) d
    by name number less d false before =
        let end : number ≡ n = (let le = ltb-false number n before in omega (arith, less, le)) in
        absurd (none name (subst (DefinesAt parts name) end d))

pub definers_step : (parts : PartTerms) (n : ℕ) (numbers after : List ℕ) (key : List ℕ) → DefinesAt parts key n →
    after ≡ numbers ++ n ∷ [] → AreDefinersBelow parts n numbers → AreDefinersBelow parts (n + 1) after
definers_step parts n numbers after key d is are =
    subst (AreDefinersBelow parts (n + 1)) (sym is) (record {
      rise = λ j k one other less at there.
          risen j k one other less (get_push numbers n j one at) (get_push numbers n k other there);
      below = λ k number at. low k number (get_push numbers n k number at);
      right = λ k number at. rightly k number (get_push numbers n k number at);
      all = λ name number less h. by name number less h (nat_lt number n) refl;
    })
  where
    low : (k number : ℕ) → IsPushed numbers n k number → number < n + 1
    low k number (inl at) = let less = are.below k number at in omega (arith, less)
    low k number (inr end) = let same = end.1 in omega (arith, same)

    risen : (j k one other : ℕ) → j < k → IsPushed numbers n j one → IsPushed numbers n k other → one < other
    risen j k one other less (inl at) (inl there) = are.rise j k one other less at there
    risen j k one other less (inl at) (inr end) =
        let below = are.below j one at in let same = end.1 in omega (arith, below, same)
    risen j k one other less (inr end) (inl there) = absurd (
        let within = get_within numbers k other there in let here = end.0 in omega (arith, less, within, here))
    risen j k one other less (inr end) (inr last) = absurd (
        let here = end.0 in let there = last.0 in omega (arith, less, here, there))

    rightly : (k number : ℕ) → IsPushed numbers n k number → (name : List ℕ) × DefinesAt parts name number
    rightly k number (inl at) = are.right k number at
    rightly k number (inr end) = (key, subst (DefinesAt parts key) end.1 d)

    by : (name : List ℕ) (number : ℕ) → number < n + 1 → DefinesAt parts name number → (b : Bool) →
        nat_lt number n ≡ b → (k : ℕ) × (slice_get (numbers ++ n ∷ []) k ≡ Some number)
    by name number less h true before =
        let found = are.all name number (ltb-true number n before) h in
        (found.0, get_before numbers (n ∷ []) found.0 number found.1)
    by name number less h false before =
        let end : n ≡ number = (let le = ltb-false number n before in omega (arith, less, le)) in
        (length numbers, get_last numbers n ∙ ap Some end)

pub definers_told : (parts : PartTerms) (most : ℕ) (numbers : List ℕ) →
    ((name : List ℕ) (k : ℕ) → DefinesAt parts name k → k < most) → AreDefinersBelow parts most numbers →
    AreDefiners parts numbers
definers_told parts most numbers all are = record {
  rise = are.rise;
  right = are.right;
  all = λ name number d. are.all name number (all name number d) d;
}
