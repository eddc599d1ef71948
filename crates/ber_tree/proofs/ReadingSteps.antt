-- One more value of those inside a constructed one: X.690, section 8.1.
use Rattle.std.proofs.Common.{◌≡◌, ℕ, zero, suc, ◌+◌, ◌<◌, ◌≤◌, List, [], ◌∷◌, ◌++◌, length, drop, Option, Some, None}
use Rattle.std.proofs.Common.{sym, ap, ◌∙◌, refl, subst, arith, length-drop, take}
use Rattle.std.specs.Prelude.{Result, Ok, Err}
use Rattle.std.proofs.lemmas.List.{drop-drop, take-append-drop}
use Rattle.std.proofs.lemmas.Option.{none-some}
use Rattle.term_values.specs.declared.ber_kind.BerKind.TheVariants.{Truncated}
use Rattle.term_values.specs.BerReading.{Fault, AllRead, Reader, result_then, stop_at, or_more, members, reading}
use Rattle.term_values.specs.SpellingLaws.{AreOctets, Spelling}
use Rattle.term_values.specs.Tree.{TreeValue, listed}
use Rattle.term_values.specs.Tree.TreeValues.{Nothing, Then}
use Rattle.term_values.proofs.ContentsLaws.{reading_told}
use Rattle.term_values.proofs.ReadingLaws.{Stop, ReadingTold, octets_back, left_less}

-- a value, and then the others
abbrev with_first : TreeValue → AllRead → AllRead
with_first x r = result_then (λ others. Ok (Then x others.0, others.1)) r

abbrev next_of : Reader → Stop → ℕ → TreeValue × List ℕ → AllRead
next_of read stop count first = with_first first.0 (members read stop count first.1)

-- these values, and then those
abbrev pub before : List TreeValue → AllRead → AllRead
before [] r = r
before (x ∷ xs) r = with_first x (before xs r)

before_push : (xs : List TreeValue) (x : TreeValue) (r : AllRead) → before (xs ++ x ∷ []) r ≡ before xs (with_first x r)
before_push [] x r = refl
before_push (y ∷ ys) x r = ap (with_first y) (before_push ys x r)

before_fault : (xs : List TreeValue) (f : Fault) → before xs (Err f) ≡ Err f
before_fault [] f = refl
before_fault (x ∷ xs) f = ap (with_first x) (before_fault xs f)

before_rest : (xs : List TreeValue) (rest : List ℕ) → before xs (Ok (Nothing, rest)) ≡ Ok (listed xs, rest)
before_rest [] rest = refl
before_rest (x ∷ xs) rest = ap (with_first x) (before_rest xs rest)

-- what is left behind a value that was read is less
less_left : (depth end : ℕ) (behind : Option ℕ) (octets rest : List ℕ) (tree : TreeValue) → AreOctets octets →
    reading depth behind end octets ≡ Ok (tree, rest) → (length rest < length octets) × AreOctets rest
less_left depth end behind octets rest tree h e =
    told (reading depth behind end octets) e (reading_told depth behind end octets h)
  where
    told : (r : Result (TreeValue × List ℕ) Fault) → r ≡ Ok (tree, rest) → ReadingTold depth behind end octets r →
        (length rest < length octets) × AreOctets rest
    told r e t =
        let s : Spelling depth octets tree rest =
        subst (λ (q : Result (TreeValue × List ℕ) Fault). ReadingTold depth behind end octets q) e t in
        (left_less depth octets tree rest s, octets_back octets s.front rest s.whole h)

ends : (value behind : Option ℕ) (end : ℕ) → stop_at value behind end [] ≡ None → ⊥
ends None behind end e = none-some _ (sym e)
ends (Some place) behind end e = none-some _ (sym e)

same_stop : (s : Option (Result (List ℕ) Fault)) (a b : AllRead) → (s ≡ None → a ≡ b) → or_more s a ≡ or_more s b
same_stop None a b h = h refl
same_stop (Some (Ok rest)) a b h = refl
same_stop (Some (Err f)) a b h = refl

same_next : (read : Reader) (stop : Stop) (n m : ℕ) (r : Result (TreeValue × List ℕ) Fault) →
    ((tree : TreeValue) (rest : List ℕ) → r ≡ Ok (tree, rest) → members read stop n rest ≡ members read stop m rest) →
    result_then (next_of read stop n) r ≡ result_then (next_of read stop m) r
same_next read stop n m (Ok (tree, rest)) h = ap (with_first tree) (h tree rest refl)
same_next read stop n m (Err f) h = refl

-- how many values there may be does not matter where there may be as many as octets
enough : (depth end : ℕ) (behind value : Option ℕ) (n m : ℕ) (octets : List ℕ) → AreOctets octets →
    length octets ≤ n → length octets ≤ m →
    members (reading depth behind end) (stop_at value behind end) n octets ≡ members (reading depth behind end)
    (stop_at value behind end) m octets
enough depth end behind value zero zero octets h k l = refl
enough depth end behind value zero (suc m) [] h k l =
    same_stop (stop_at value behind end []) _ _ (λ e. absurd (ends value behind end e))
enough depth end behind value (suc n) zero [] h k l =
    same_stop (stop_at value behind end []) _ _ (λ e. absurd (ends value behind end e))
enough depth end behind value zero (suc m) (octet ∷ octets) h k l = absurd (omega arith)
enough depth end behind value (suc n) zero (octet ∷ octets) h k l = absurd (omega arith)
enough depth end behind value (suc n) (suc m) octets h k l =
    same_stop (stop_at value behind end octets) _ _ (λ e.
    same_next (reading depth behind end) (stop_at value behind end) n m (reading depth behind end octets)
    (λ tree rest was.
    let left = less_left depth end behind octets rest tree h was in
    let less = left.0 in
    enough depth end behind value n m rest left.1 (omega arith) (omega arith)))

-- what is inside from these octets on
abbrev pub inside : ℕ → Option ℕ → ℕ → Option ℕ → List ℕ → AllRead
inside depth behind end value octets =
    members (reading depth behind end) (stop_at value behind end) (length octets) octets

inside_stop : (depth end : ℕ) (behind value : Option ℕ) (octets : List ℕ) (n : ℕ) (s : Result (List ℕ) Fault)
    (r : AllRead) → stop_at value behind end octets ≡ Some s →
    members (reading depth behind end) (stop_at value behind end) n octets ≡ or_more (Some s) r
inside_stop depth end behind value octets zero (Ok rest) r e = ap (λ s. or_more s (Err (0, Truncated))) e
inside_stop depth end behind value octets zero (Err f) r e = ap (λ s. or_more s (Err (0, Truncated))) e
inside_stop depth end behind value octets (suc n) (Ok rest) r e =
    ap (λ s. or_more s
    (result_then (next_of (reading depth behind end) (stop_at value behind end) n) (reading depth behind end octets)))
    e
inside_stop depth end behind value octets (suc n) (Err f) r e =
    ap (λ s. or_more s
    (result_then (next_of (reading depth behind end) (stop_at value behind end) n) (reading depth behind end octets)))
    e

-- where a value begins
inside_goes : (depth end : ℕ) (behind value : Option ℕ) (octets : List ℕ) (n : ℕ) → length octets ≡ suc n →
    stop_at value behind end octets ≡ None →
    inside depth behind end value octets ≡ result_then
    (next_of (reading depth behind end) (stop_at value behind end) n) (reading depth behind end octets)
inside_goes depth end behind value octets n l e =
    ap (λ k. members (reading depth behind end) (stop_at value behind end) k octets) l
    ∙ ap (λ s.
    or_more s
    (result_then (next_of (reading depth behind end) (stop_at value behind end) n)
    (reading depth behind end octets))) e

some_left : (value behind : Option ℕ) (end : ℕ) (octets : List ℕ) → stop_at value behind end octets ≡ None →
    0 < length octets
some_left value behind end [] e = absurd (ends value behind end e)
some_left value behind end (octet ∷ octets) e = omega arith

one_more : (octets : List ℕ) → 0 < length octets → (n : ℕ) × (length octets ≡ suc n)
one_more [] h = absurd (omega arith)
one_more (octet ∷ octets) h = (length octets, refl)

-- the whole is what was read and what is inside the octets that are left
pub record Leads (depth : ℕ) (behind : Option ℕ) (end : ℕ) (value : Option ℕ) (octets : List ℕ) (at : ℕ)
    (trees : List TreeValue) : Type 0 where
  pub within : at ≤ length octets
  pub whole : inside depth behind end value octets ≡ before trees (inside depth behind end value (drop at octets))

pub leads_first : (depth : ℕ) (behind : Option ℕ) (end : ℕ) (value : Option ℕ) (octets : List ℕ) →
    Leads depth behind end value octets 0 []
leads_first depth behind end value octets = record { within = omega arith; whole = refl }

octets_left : (octets : List ℕ) (at : ℕ) → AreOctets octets → AreOctets (drop at octets)
octets_left octets at h = octets_back octets (take at octets) (drop at octets) (sym (take-append-drop at octets)) h

pub leads_more : (depth : ℕ) (behind : Option ℕ) (end : ℕ) (value : Option ℕ) (octets : List ℕ) (at size : ℕ)
    (trees : List TreeValue) (tree : TreeValue) → AreOctets octets → Leads depth behind end value octets at trees →
    stop_at value behind end (drop at octets) ≡ None → size ≤ length (drop at octets) →
    reading depth behind end (drop at octets) ≡ Ok (tree, drop size (drop at octets)) →
    Leads depth behind end value octets (at + size) (trees ++ tree ∷ [])
leads_more depth behind end value octets at size trees tree h l e fits was =
    let ys = drop at octets in
    let n = one_more ys (some_left value behind end ys e) in
    let left = less_left depth end behind ys (drop size ys) tree (octets_left octets at h) was in
    let less = left.0 in
    let long = n.1 in
    let within = l.within in
    let step : inside depth behind end value ys ≡ with_first tree (inside depth behind end value (drop size ys)) =
    inside_goes depth end behind value ys n.0 n.1 e
    ∙ (ap (result_then (next_of (reading depth behind end) (stop_at value behind end) n.0)) was
    ∙ ap (with_first tree)
    (enough depth end behind value n.0 (length (drop size ys)) (drop size ys) left.1 (omega arith)
    (omega arith))) in
    record {
      within = omega (arith, length-drop at octets);
      whole =
          l.whole
          ∙ (ap (before trees) step
          ∙ (sym (before_push trees tree (inside depth behind end value (drop size ys)))
          ∙ ap (λ zs. before (trees ++ tree ∷ []) (inside depth behind end value zs)) (drop-drop size at octets)));
    }

-- a value has octets
pub some_size : (depth : ℕ) (behind : Option ℕ) (end : ℕ) (octets : List ℕ) (at size : ℕ) (tree : TreeValue) →
    AreOctets octets → size ≤ length (drop at octets) →
    reading depth behind end (drop at octets) ≡ Ok (tree, drop size (drop at octets)) → 0 < size
some_size depth behind end octets at size tree h fits was =
    let left =
    less_left depth end behind (drop at octets) (drop size (drop at octets)) tree (octets_left octets at h) was in
    let less = left.0 in
    omega (arith, length-drop size (drop at octets))

pub leads_stop : (depth : ℕ) (behind : Option ℕ) (end : ℕ) (value : Option ℕ) (octets : List ℕ) (at size : ℕ)
    (trees : List TreeValue) → Leads depth behind end value octets at trees →
    stop_at value behind end (drop at octets) ≡ Some (Ok (drop size (drop at octets))) →
    inside depth behind end value octets ≡ Ok (listed trees, drop (at + size) octets)
leads_stop depth behind end value octets at size trees l e =
    let ys = drop at octets in
    let stopped : inside depth behind end value ys ≡ Ok (Nothing, drop size ys) =
    inside_stop depth end behind value ys (length ys) (Ok (drop size ys)) (Err (0, Truncated)) e in
    l.whole ∙ (ap (before trees) stopped
    ∙ (before_rest trees (drop size ys) ∙ ap (λ zs. Ok (listed trees, zs)) (drop-drop size at octets)))

pub leads_broken : (depth : ℕ) (behind : Option ℕ) (end : ℕ) (value : Option ℕ) (octets : List ℕ) (at : ℕ)
    (trees : List TreeValue) (f : Fault) → Leads depth behind end value octets at trees →
    stop_at value behind end (drop at octets) ≡ Some (Err f) → inside depth behind end value octets ≡ Err f
leads_broken depth behind end value octets at trees f l e =
    let ys = drop at octets in
    let stopped : inside depth behind end value ys ≡ Err f =
    inside_stop depth end behind value ys (length ys) (Err f) (Err (0, Truncated)) e in
    l.whole ∙ (ap (before trees) stopped ∙ before_fault trees f)

pub leads_fault : (depth : ℕ) (behind : Option ℕ) (end : ℕ) (value : Option ℕ) (octets : List ℕ) (at : ℕ)
    (trees : List TreeValue) (f : Fault) → Leads depth behind end value octets at trees →
    stop_at value behind end (drop at octets) ≡ None → reading depth behind end (drop at octets) ≡ Err f →
    inside depth behind end value octets ≡ Err f
leads_fault depth behind end value octets at trees f l e was =
    let ys = drop at octets in
    let n = one_more ys (some_left value behind end ys e) in
    let step : inside depth behind end value ys ≡ Err f = inside_goes depth end behind value ys n.0 n.1 e
    ∙ ap (result_then (next_of (reading depth behind end) (stop_at value behind end) n.0)) was in
    l.whole ∙ (ap (before trees) step ∙ before_fault trees f)
