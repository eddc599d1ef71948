-- Where a path ends.
use Rattle.std.proofs.Common.{◌≡◌, ◌<◌, ◌≤◌, ℕ, zero, suc, Bool, true, false, List, [], ◌∷◌, ◌++◌, length, take}
use Rattle.std.proofs.Common.{length-append}
use Rattle.std.proofs.Common.{Option, None, Some, refl, sym, ap, ◌∙◌, subst, arith, append-nil, if◌then◌else◌, inl, inr}
use Rattle.std.specs.Prelude.{slice_get}
use Rattle.std.specs.Option.{option_map}
use Rattle.std.proofs.lemmas.Option.{none-some, same_Some}
use Rattle.term_model.specs.declared.name.Rdn.{Rdn}
use Rattle.lock_model.specs.declared.lock_name.LockName.{LockName}
use Rattle.lock_model.specs.declared.lock_name.Mode.{Mode}
use Rattle.lock_model.specs.declared.lock_name.Part.{Part}
use Rattle.lock_model.specs.LockPath.{Path, at_the_unit, begins, ending, on_the_way, tree, way_from, way_to}
use Rattle.lock_model.specs.Units.{ended_at, ended_from, walk}
use Rattle.lock_model.specs.PathEnds.{EndAtFirstLog, NextPlace, NoLogAbove, OneLook, ended, first_place, is_log_place}
use Rattle.lock_model.specs.PathEnds.{last_mode, with_mode}
use Rattle.lock_model.proofs.Names.{begins_is, begins_itself, comparable}
use Rattle.lock_model.proofs.Waiting.{shorter, walk_from}
use Rattle.lock_model.proofs.Paths.{ended_name}
use Rattle.lock_model.specs.declared.lock_name.Part.TheVariants as extents

abbrev Place : Type 0
Place = LockName × Mode

-- the path up to the first place that passes, which gets another mode
abbrev up_to : (Place → Bool) → Mode → Path → Path
up_to test full [] = []
up_to test full (place ∷ others) = if test place then (place.0, full) ∷ [] else place ∷ up_to test full others

abbrev ended_full : Mode → Path → Option ℕ → Path
ended_full full path None = path
ended_full full path (Some at) = take at path ++ with_mode full (slice_get path at)

ended_is : (path : Path) (o : Option ℕ) → ended path o ≡ ended_full (last_mode path) path o
ended_is path None = refl
ended_is path (Some at) = refl

up_to_is : (test : Place → Bool) (full : Mode) (path : Path)
    → ended_full full path (first_place test path) ≡ up_to test full path
up_to_is test full [] = refl
up_to_is test full (place ∷ others) = by (up_to_is test full others) (test place)
  where
    further : (o : Option ℕ) → ended_full full others o ≡ up_to test full others
        → ended_full full (place ∷ others) (option_map (λ n. suc n) o) ≡ place ∷ up_to test full others
    further None h = ap (λ (p : Path). place ∷ p) h
    further (Some n) h = ap (λ (p : Path). place ∷ p) h

    by : ended_full full others (first_place test others) ≡ up_to test full others → (b : Bool)
        → ended_full full (place ∷ others) (if b then Some 0 else option_map (λ n. suc n) (first_place test others))
        ≡ (if b then (place.0, full) ∷ [] else place ∷ up_to test full others)
    by again true = refl
    by again false = further (first_place test others) again

last_of_way : (front parts : List Rdn) (part : Part) (writing : Bool)
    → last_mode (way_from front parts part writing) ≡ at_the_unit writing
last_of_way front [] extents.Tree writing = refl
last_of_way front [] extents.Own writing = refl
last_of_way front (first ∷ []) extents.Tree writing = refl
last_of_way front (first ∷ []) extents.Own writing = refl
last_of_way front (first ∷ second ∷ others) part writing =
    last_of_way (front ++ first ∷ []) (second ∷ others) part writing

walked : (is_log : List Rdn → Bool) (front parts : List Rdn) (part : Part) (writing : Bool)
    → up_to (is_log_place is_log) (at_the_unit writing) (way_from front parts part writing)
    ≡ walk is_log front parts part writing
walked is_log front [] extents.Tree writing = by (is_log front)
  where
    by : (b : Bool)
        → (if b then (tree front, at_the_unit writing) ∷ [] else (tree front, at_the_unit writing) ∷ [])
        ≡ (if b then (tree front, at_the_unit writing) ∷ [] else ending front extents.Tree writing)
    by true = refl
    by false = refl
walked is_log front [] extents.Own writing = refl
walked is_log front (first ∷ others) part writing =
    ap (λ (p : Path). if is_log front then (tree front, at_the_unit writing) ∷ []
    else (tree front, on_the_way writing) ∷ p) (walked is_log (front ++ first ∷ []) others part writing)

pub end_at_first_log : EndAtFirstLog
end_at_first_log = λ is_log whole.
    let path : Path = way_to whole in
    let h = walk_from is_log [] whole.unit.name whole.unit.part whole.writing in
    ended_is path (first_place (is_log_place is_log) path)
    ∙ ap (λ m. ended_full m path (first_place (is_log_place is_log) path))
    (last_of_way [] whole.unit.name whole.unit.part whole.writing)
    ∙ up_to_is (is_log_place is_log) (at_the_unit whole.writing) path
    ∙ walked is_log [] whole.unit.name whole.unit.part whole.writing
    ∙ h.2 ∙ sym (ap (λ n. way_from [] n (ended_at is_log whole.unit).part whole.writing) h.1)

-- ---- one look

up_to_some : (test : Place → Bool) (full : Mode) (first : Place) (others : Path)
    → 0 < length (up_to test full (first ∷ others))
up_to_some test full first others = by (test first)
  where
    by : (b : Bool) → 0 < length (if b then (first.0, full) ∷ [] else first ∷ up_to test full others)
    by true = omega arith
    by false = omega arith

up_to_next : (test : Place → Bool) (full : Mode) (path : Path) (held : ℕ) (place : Place)
    → ((i : ℕ) (p : Place) → i < held → slice_get path i ≡ Some p → test p ≡ false)
    → slice_get path held ≡ Some place → NextPlace (test place) full place path (up_to test full path) held
up_to_next test full [] held place plain at = absurd (none-some place at)
up_to_next test full (first ∷ others) zero place plain at =
    subst (λ (q : Place). NextPlace (test q) full q (first ∷ others) (up_to test full (first ∷ others)) zero)
    (same_Some first place at) (by (test first))
  where
    some : 0 < length others → 0 < length (up_to test full others)
    some h = by_list others h
      where
        by_list : (p : Path) → 0 < length p → 0 < length (up_to test full p)
        by_list [] h = absurd (omega arith)
        by_list (x ∷ xs) h = up_to_some test full x xs

    none : length others ≡ 0 → length (up_to test full others) ≡ 0
    none h = by_list others h
      where
        by_list : (p : Path) → length p ≡ 0 → length (up_to test full p) ≡ 0
        by_list [] h = refl
        by_list (x ∷ xs) h = absurd (omega arith)

    by : (b : Bool)
        → NextPlace b full first (first ∷ others)
        (if b then (first.0, full) ∷ [] else first ∷ up_to test full others) zero
    by true = record {
      next = refl;
      last = λ e. refl;
      whole_last = λ e h. absurd (cc e);
      further = λ e h. absurd (cc e);
    }
    by false = record {
      next = refl;
      last = λ e. absurd (cc e);
      whole_last = λ e h. (let k = none (omega arith) in omega arith);
      further = λ e h. (let k = some (omega arith) in omega arith);
    }
up_to_next test full (first ∷ others) (suc held) place plain at =
    let out : test first ≡ false = plain 0 first (omega arith) refl in
    let rest = up_to_next test full others held place (λ i p h k. plain (suc i) p (omega arith) k) at in
    subst (λ b. NextPlace (test place) full place (first ∷ others)
    (if b then (first.0, full) ∷ [] else first ∷ up_to test full others) (suc held)) (sym out)
    (record {
      next = rest.next;
      last = λ e. (let k = rest.last e in omega arith);
      whole_last = λ e h. (let k = rest.whole_last e (omega arith) in omega arith);
      further = λ e h. (let k = rest.further e (omega arith) in omega arith);
    })

pub one_look : OneLook
one_look = λ is_log whole held place plain at.
    let h = walk_from is_log [] whole.unit.name whole.unit.part whole.writing in
    let same : up_to (is_log_place is_log) (at_the_unit whole.writing) (way_to whole)
    ≡ way_to (record { unit = ended_at is_log whole.unit; writing = whole.writing }) =
    walked is_log [] whole.unit.name whole.unit.part whole.writing ∙ h.2
    ∙ sym (ap (λ n. way_from [] n (ended_at is_log whole.unit).part whole.writing) h.1) in
    subst (λ (p : Path). NextPlace (is_log_place is_log place) (at_the_unit whole.writing) place (way_to whole) p held)
    same (up_to_next (is_log_place is_log) (at_the_unit whole.writing) (way_to whole) held place plain at)

-- ---- no log above

-- names as long that begin each other are the same
begins_as_long : (a b : List Rdn) → begins a b ≡ true → length b ≤ length a → a ≡ b
begins_as_long a b h less = let behind = begins_is a b h in by behind.0 behind.1
  where
    by : (rest : List Rdn) → b ≡ a ++ rest → a ≡ b
    by [] is = sym (is ∙ append-nil a)
    by (r ∷ rs) is = let same = ap length is in absurd (omega (arith, length-append a (r ∷ rs)))

above : (is_log : List Rdn → Bool) (front parts : List Rdn) (part : Part) (name : List Rdn) → begins front name ≡ true
    → begins name (ended_from is_log front parts part).name ≡ true
    → length name < length (ended_from is_log front parts part).name → is_log name ≡ false
above is_log front [] part name low high less = absurd (by (is_log front) less)
  where
    by : (b : Bool) → length name < length (if b then tree front else record { name = front; part = part }).name → ⊥
    by true less = let k = shorter front name low in omega arith
    by false less = let k = shorter front name low in omega arith
above is_log front (first ∷ others) part name low high less =
    by (above is_log (front ++ first ∷ []) others part name) (is_log front) refl high less
  where
    next : LockName
    next = ended_from is_log (front ++ first ∷ []) others part

    here : is_log front ≡ false → name ≡ front → is_log name ≡ false
    here e is = ap is_log is ∙ e

    by : (begins (front ++ first ∷ []) name ≡ true → begins name next.name ≡ true → length name < length next.name
        → is_log name ≡ false) → (b : Bool) → is_log front ≡ b
        → begins name (if b then tree front else next).name ≡ true
        → length name < length (if b then tree front else next).name → is_log name ≡ false
    by again true e high less = let k = shorter front name low in absurd (omega arith)
    by again false e high less =
        elim (comparable (front ++ first ∷ []) name next.name (ended_name is_log
        (front ++ first ∷ []) others part) high) [
          | inl below ↦ again below high less
          | inr over ↦ (let behind = begins_is front name low in
              by_rest behind.0 behind.1 over (λ full. again full high less) (here e))
        ]
      where
        by_rest : (rest : List Rdn) → name ≡ front ++ rest → begins name (front ++ first ∷ []) ≡ true
            → (begins (front ++ first ∷ []) name ≡ true → is_log name ≡ false) → (name ≡ front → is_log name ≡ false)
            → is_log name ≡ false
        by_rest [] is over full front_is = front_is (is ∙ append-nil front)
        by_rest (r ∷ rs) is over full front_is =
            let long = ap length is in
            let same : name ≡ front ++ first ∷ [] =
            begins_as_long name (front ++ first ∷ []) over
            (omega (arith, length-append front (r ∷ rs), length-append front (first ∷ []))) in
            full (subst (λ n. begins (front ++ first ∷ []) n ≡ true) (sym same) (begins_itself (front ++ first ∷ [])))

pub no_log_above : NoLogAbove
no_log_above = λ is_log unit name high less. above is_log [] unit.name unit.part name refl high less
