-- MarkLaws: the marks that a set tells, of no element, and of one more.
use Rattle.std.proofs.Common.{◌≡◌, ◌≢◌, ◌<◌, ◌≤◌, ◌+◌, ◌↔◌, ◌∙◌, ℕ, suc, zero, List, [], ◌∷◌, Bool, true, false, Some, None}
use Rattle.std.proofs.Common.{ap, arith, length, refl, replicate, set, subst, sym}
use Rattle.std.specs.List.{list_any, slice_get}
use Rattle.std.specs.BTreeSet.{BTreeSet, contains}
use Rattle.std.specs.BTreeMap.{is_at}
use Rattle.std.specs.Ordering.{is_eq, nat_cmp}
use Rattle.std.specs.Prelude.{IsTrue, not}
use Rattle.std.specs.declared.cmp.Ordering.{Ordering}
use Rattle.std.specs.declared.cmp.Ordering.TheVariants.{Less, Equal, Greater}
use Rattle.std.proofs.lemmas.Bool.{true≢false}
use Rattle.std.proofs.lemmas.Map.Lookups.{exact_unsigned}
use Rattle.std.proofs.lemmas.Option.{none-some, same_Some, slice_get_past, slice_get_within}
use Rattle.link_graphs.specs.Marking.{IsMarked}
use Rattle.reached_elements.specs.MarkedSets.{marks_from, marks_of}

-- ---- one mark

pub has_at : (s : BTreeSet ℕ) (first n e : ℕ) → e < n →
    slice_get (marks_from s first n) e ≡ Some (contains nat_cmp s (first + e))
has_at s first zero e less = absurd (omega (arith, less))
has_at s first (suc n) zero less = ap (λ k. Some (contains nat_cmp s k)) (omega arith)
has_at s first (suc n) (suc e) less =
    let within : e < n = omega (arith, less) in
    has_at s (suc first) n e within ∙ ap (λ k. Some (contains nat_cmp s k)) (omega arith)

pub size_is : (s : BTreeSet ℕ) (first n : ℕ) → length (marks_from s first n) ≡ n
size_is s first zero = refl
size_is s first (suc n) = ap (λ k. suc k) (size_is s (suc first) n)

-- ---- no element

pub none_set : (s : BTreeSet ℕ) (first n : ℕ) → s.keys ≡ [] → marks_from s first n ≡ replicate n false
none_set s first zero none = refl
none_set s first (suc n) none =
    ap (λ ks. list_any (is_at (nat_cmp first)) ks ∷ marks_from s (suc first) n) none ∙
    ap (λ xs. false ∷ xs) (none_set s (suc first) n none)

-- ---- one more

module _ (s t : BTreeSet ℕ) (key : ℕ) (here : contains nat_cmp t key ≡ true)
    (other : (q : ℕ) → q ≢ key → contains nat_cmp t q ≡ contains nat_cmp s q) where
  behind : (first n : ℕ) → key < first → marks_from t first n ≡ marks_from s first n
  behind first zero less = refl
  behind first (suc n) less =
      ap (λ b. b ∷ marks_from t (suc first) n) (other first (λ is. absurd (omega (arith, is, less)))) ∙
      ap (λ xs. contains nat_cmp s first ∷ xs) (behind (suc first) n (omega (arith, less)))

  pub one_set : (first n e : ℕ) → key ≡ first + e → e < n →
      marks_from t first n ≡ set (marks_from s first n) e true
  one_set first zero e is less = absurd (omega (arith, less))
  one_set first (suc n) zero is less =
      let same : key ≡ first = omega (arith, is) in
      ap (λ b. b ∷ marks_from t (suc first) n) (ap (λ k. contains nat_cmp t k) (sym same) ∙ here) ∙
      ap (λ xs. true ∷ xs) (behind (suc first) n (omega (arith, same)))
  one_set first (suc n) (suc e) is less =
      ap (λ b. b ∷ marks_from t (suc first) n) (other first (λ same. absurd (omega (arith, is, same)))) ∙
      ap (λ xs. contains nat_cmp s first ∷ xs) (one_set (suc first) n e (omega (arith, is)) (omega (arith, less)))

-- ---- what the calls tell

mark_at : (s : BTreeSet ℕ) (count e : ℕ) (now : List Bool) → marks_of s count ≡ now → e < count →
    slice_get now e ≡ Some (contains nat_cmp s e)
mark_at s count e now view less =
    subst (λ xs. slice_get xs e ≡ Some (contains nat_cmp s e)) view (has_at s 0 count e less ∙
    ap (λ k. Some (contains nat_cmp s k)) (omega arith))

same_mark : (now : List Bool) (e : ℕ) (a b : Bool) → slice_get now e ≡ Some a → slice_get now e ≡ Some b → a ≡ b
same_mark now e a b p q = same_Some a b (sym p ∙ q)

pub has_told : (s : BTreeSet ℕ) (count e : ℕ) (now : List Bool) (told : Bool) → marks_of s count ≡ now → e < count →
    told ≡ contains nat_cmp s e → IsTrue told ↔ IsMarked now e
has_told s count e now told view less is = (
  λ yes. mark_at s count e now view less ∙ ap Some (sym is ∙ yes),
  λ marked. is ∙ same_mark now e (contains nat_cmp s e) true (mark_at s count e now view less) marked,
)

pub lacks_told : (s : BTreeSet ℕ) (count e : ℕ) (now : List Bool) (told : Bool) → marks_of s count ≡ now → e < count →
    told ≡ contains nat_cmp s e → IsTrue (not told) ↔ (slice_get now e ≡ Some false)
lacks_told s count e now told view less is = (
  λ yes. mark_at s count e now view less ∙ ap Some (sym is ∙ is_false told yes),
  λ lacking. ap not (is ∙ same_mark now e (contains nat_cmp s e) false (mark_at s count e now view less) lacking),
)
  where
    is_false : (b : Bool) → IsTrue (not b) → b ≡ false
    is_false true told_so = sym told_so
    is_false false told_so = refl

-- past the marks none is there
pub none_past : (s : BTreeSet ℕ) (count e : ℕ) (now : List Bool) (mark : Bool) → marks_of s count ≡ now → count ≤ e →
    IsTrue false ↔ (slice_get now e ≡ Some mark)
none_past s count e now mark view past = (
  λ yes. absurd (true≢false (sym yes)),
  λ there. absurd (none-some mark (sym (nothing now (size now view)) ∙ there)),
)
  where
    size : (xs : List Bool) → marks_of s count ≡ xs → length xs ≤ e
    size xs is = let n = ap (λ ys. length ys) (sym is) ∙ size_is s 0 count in omega (arith, n, past)

    nothing : (xs : List Bool) → length xs ≤ e → slice_get xs e ≡ None
    nothing xs long = slice_get_past xs e long

-- ---- a mark is set

at_key : (key q : ℕ) → is_at (nat_cmp key) q ≡ true → key ≡ q
at_key key q h = exact_unsigned key q (equal (nat_cmp key q) h)
  where
    equal : (o : Ordering) → is_eq o ≡ true → o ≡ Equal
    equal Less h = absurd (true≢false (sym h))
    equal Equal h = refl
    equal Greater h = absurd (true≢false (sym h))

not_at : (key q : ℕ) → q ≢ key → is_at (nat_cmp key) q ≡ false
not_at key q other = by (is_at (nat_cmp key) q) refl
  where
    by : (b : Bool) → is_at (nat_cmp key) q ≡ b → b ≡ false
    by true is = absurd (other (sym (at_key key q is)))
    by false is = refl

pub mark_told : (s t : BTreeSet ℕ) (count key : ℕ) (now : List Bool) → marks_of s count ≡ now →
    contains nat_cmp t key ≡ true →
    ((q : ℕ) → is_at (nat_cmp key) q ≡ false → contains nat_cmp t q ≡ contains nat_cmp s q) →
    slice_get now key ≡ Some false → marks_of t count ≡ set now key true
mark_told s t count key now view here other lacking =
    let less : key < count = let w = slice_get_within now key false lacking in
    let n = ap (λ ys. length ys) (sym view) ∙ size_is s 0 count in omega (arith, w, n) in
    one_set s t key here (λ q unlike. other q (not_at key q unlike)) 0 count key (omega arith) less ∙
    ap (λ xs. set xs key true) view
