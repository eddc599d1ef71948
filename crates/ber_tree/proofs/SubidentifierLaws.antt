-- Subidentifiers, read and written: X.690, section 8.19.2.
use Rattle.std.proofs.Common.{◌≡◌, ℕ, zero, suc, ◌+◌, ◌-◌, ◌*◌, ◌/◌, ◌%◌, ◌^◌, ◌<◌, ◌≤◌, List, [], ◌∷◌, ◌++◌, length}
use Rattle.std.proofs.Common.{take, get_or, All, sym, ap, ◌∙◌, refl, subst, ◌⊎◌, ⊎_elim, arith, add-one, length-append}
use Rattle.std.proofs.Math.Nat.{pow-suc, pow-le-pow_right, add-mul, mul_assoc}
use Rattle.std.proofs.lemmas.Nat.{pow-add}
use Rattle.std.proofs.lemmas.Bool.{lt-ltb, le-ltb, cases_lt, cases_order}
use Rattle.std.proofs.lemmas.List.{take_more, take_at, length-take-le, get_or-take, get_or_append_left}
use Rattle.std.proofs.lemmas.List.{append_cancel_left}
use Rattle.term_values.specs.Oid.{subidentifier}
use Rattle.ber_tree.specs.Subidentifiers.{grouped, IsSize}

regrouped : (x a p n m : ℕ) → x * (a * p) + (n * p + m) ≡ (x * a + n) * p + m
regrouped x a p n m = rw (add-mul (x * a) n p, mul_assoc x a p) (omega arith)

grouped-append : (xs ys : List ℕ) → grouped (xs ++ ys) ≡ grouped xs * 128 ^ length ys + grouped ys
grouped-append [] ys = omega arith
grouped-append (x ∷ xs) ys =
    rw (length-append xs ys, grouped-append xs ys, pow-add 128 (length xs) (length ys))
    (regrouped (x % 128) (128 ^ length xs) (128 ^ length ys) (grouped xs) (grouped ys))

pub grouped-take_more : (xs : List ℕ) (i : ℕ) → i < length xs
    → grouped (take (i + 1) xs) ≡ grouped (take i xs) * 128 + get_or xs i 0 % 128
grouped-take_more xs i h =
    ap grouped (take_more xs i 0 h) ∙ (grouped-append (take i xs) (get_or xs i 0 ∷ []) ∙ omega arith)

pub five_groups : (i : ℕ) → i < 5 → 128 ^ i ≤ 268435456
five_groups i h = let e : 128 ^ i ≤ 128 ^ 4 =
    pow-le-pow_right {n = 128} (omega arith) {i = i} {j = 4} (omega arith) in e

pub group_more : (i value x : ℕ) → value < 128 ^ i → x < 128 → value * 128 + x < 128 ^ (i + 1)
group_more i value x h l = let e : 128 ^ suc i ≡ 128 ^ i * 128 = pow-suc 128 i in rw (add-one i, e) (omega arith)

-- octets that are a subidentifier
pub record IsGroups (xs : List ℕ) : Type 0 where
  pub size : IsSize xs (length xs)
  pub octets : All (λ x. x < 256) xs
  pub least : get_or xs 0 0 ≡ 128 → ⊥
  pub small : grouped xs < 4294967296

sub_1 : (n : ℕ) → n < 128 → subidentifier n ≡ n % 128 ∷ []
unfolding subidentifier
sub_1 n h = rw (lt-ltb n 128 h) refl

sub_2 : (n : ℕ) → 128 ≤ n → n < 16384 → subidentifier n ≡ (128 + n / 128 % 128) ∷ n % 128 ∷ []
unfolding subidentifier
sub_2 n l h = rw (le-ltb n 128 l, lt-ltb n 16384 h) refl

sub_3 : (n : ℕ) → 16384 ≤ n → n < 2097152
    → subidentifier n ≡ (128 + n / 16384 % 128) ∷ (128 + n / 128 % 128) ∷ n % 128 ∷ []
unfolding subidentifier
sub_3 n l h = rw (le-ltb n 128 (omega arith), le-ltb n 16384 l, lt-ltb n 2097152 h) refl

sub_4 : (n : ℕ) → 2097152 ≤ n → n < 268435456
    → subidentifier n ≡ (128 + n / 2097152 % 128) ∷ (128 + n / 16384 % 128) ∷ (128 + n / 128 % 128) ∷ n % 128 ∷ []
unfolding subidentifier
sub_4 n l h = rw (
  le-ltb n 128 (omega arith),
  le-ltb n 16384 (omega arith),
  le-ltb n 2097152 l,
  lt-ltb n 268435456 h,
) refl

sub_5 : (n : ℕ) → 268435456 ≤ n
    → subidentifier n ≡ (128 + n / 268435456 % 128) ∷ (128 + n / 2097152 % 128) ∷ (128 + n / 16384 % 128)
    ∷ (128 + n / 128 % 128) ∷ n % 128 ∷ []
unfolding subidentifier
sub_5 n l = rw (
  le-ltb n 128 (omega arith),
  le-ltb n 16384 (omega arith),
  le-ltb n 2097152 (omega arith),
  le-ltb n 268435456 l,
) refl

-- what is read is written so
pub subidentifier_of_groups : (xs : List ℕ) → IsGroups xs → subidentifier (grouped xs) ≡ xs
subidentifier_of_groups [] g = absurd (let some = g.size.some in omega arith)
subidentifier_of_groups (a ∷ []) g =
    let a' : a < 128 = g.size.last in
    let n = grouped (a ∷ []) in
    let e : n % 128 ≡ a = omega arith in
    sub_1 n (omega arith) ∙ (cc)
subidentifier_of_groups (a ∷ b ∷ []) g =
    let a' : 128 ≤ a = g.size.more 0 (omega arith) in
    let a'' : a < 256 = g.octets 0 0 (omega arith) in
    let more : a ≡ 128 → ⊥ = g.least in
    let b' : b < 128 = g.size.last in
    let n = grouped (a ∷ b ∷ []) in
    let e1 : 128 + n / 128 % 128 ≡ a = omega arith in
    let e0 : n % 128 ≡ b = omega arith in
    sub_2 n (omega arith) (omega arith) ∙ (cc)
subidentifier_of_groups (a ∷ b ∷ c ∷ []) g =
    let a' : 128 ≤ a = g.size.more 0 (omega arith) in
    let a'' : a < 256 = g.octets 0 0 (omega arith) in
    let more : a ≡ 128 → ⊥ = g.least in
    let b' : 128 ≤ b = g.size.more 1 (omega arith) in
    let b'' : b < 256 = g.octets 1 0 (omega arith) in
    let c' : c < 128 = g.size.last in
    let n = grouped (a ∷ b ∷ c ∷ []) in
    let e2 : 128 + n / 16384 % 128 ≡ a = omega arith in
    let e1 : 128 + n / 128 % 128 ≡ b = omega arith in
    let e0 : n % 128 ≡ c = omega arith in
    sub_3 n (omega arith) (omega arith) ∙ (cc)
subidentifier_of_groups (a ∷ b ∷ c ∷ d ∷ []) g =
    let a' : 128 ≤ a = g.size.more 0 (omega arith) in
    let a'' : a < 256 = g.octets 0 0 (omega arith) in
    let more : a ≡ 128 → ⊥ = g.least in
    let b' : 128 ≤ b = g.size.more 1 (omega arith) in
    let b'' : b < 256 = g.octets 1 0 (omega arith) in
    let c' : 128 ≤ c = g.size.more 2 (omega arith) in
    let c'' : c < 256 = g.octets 2 0 (omega arith) in
    let d' : d < 128 = g.size.last in
    let n = grouped (a ∷ b ∷ c ∷ d ∷ []) in
    let e3 : 128 + n / 2097152 % 128 ≡ a = omega arith in
    let e2 : 128 + n / 16384 % 128 ≡ b = omega arith in
    let e1 : 128 + n / 128 % 128 ≡ c = omega arith in
    let e0 : n % 128 ≡ d = omega arith in
    sub_4 n (omega arith) (omega arith) ∙ (cc)
subidentifier_of_groups (a ∷ b ∷ c ∷ d ∷ f ∷ []) g =
    let a' : 128 ≤ a = g.size.more 0 (omega arith) in
    let a'' : a < 256 = g.octets 0 0 (omega arith) in
    let more : a ≡ 128 → ⊥ = g.least in
    let b' : 128 ≤ b = g.size.more 1 (omega arith) in
    let b'' : b < 256 = g.octets 1 0 (omega arith) in
    let c' : 128 ≤ c = g.size.more 2 (omega arith) in
    let c'' : c < 256 = g.octets 2 0 (omega arith) in
    let d' : 128 ≤ d = g.size.more 3 (omega arith) in
    let d'' : d < 256 = g.octets 3 0 (omega arith) in
    let f' : f < 128 = g.size.last in
    let n = grouped (a ∷ b ∷ c ∷ d ∷ f ∷ []) in
    let e4 : 128 + n / 268435456 % 128 ≡ a = omega arith in
    let e3 : 128 + n / 2097152 % 128 ≡ b = omega arith in
    let e2 : 128 + n / 16384 % 128 ≡ c = omega arith in
    let e1 : 128 + n / 128 % 128 ≡ d = omega arith in
    let e0 : n % 128 ≡ f = omega arith in
    sub_5 n (omega arith) ∙ (cc)
subidentifier_of_groups (a ∷ b ∷ c ∷ d ∷ e ∷ f ∷ others) g = absurd (let few = g.size.few in omega arith)

-- groups of seven bits, of which the last one alone says that no more follow
record IsTail (xs : List ℕ) : Type 0 where
  some : 0 < length xs
  octets : (k d : ℕ) → k < length xs → get_or xs k d < 256
  more : (k : ℕ) → k + 1 < length xs → 128 ≤ get_or xs k 0
  last : (k : ℕ) → k + 1 ≡ length xs → get_or xs k 0 < 128

octets_1 : (x : ℕ) → x < 128 → (k d : ℕ) → k < length (x ∷ []) → get_or (x ∷ []) k d < 256
octets_1 x h zero d i = omega arith
octets_1 x h (suc k) d i = absurd (omega arith)

last_1 : (x : ℕ) → x < 128 → (k : ℕ) → k + 1 ≡ length (x ∷ []) → get_or (x ∷ []) k 0 < 128
last_1 x h zero i = h
last_1 x h (suc k) i = absurd (omega arith)

tail_1 : (x : ℕ) → x < 128 → IsTail (x ∷ [])
tail_1 x h = record { some = omega arith; octets = octets_1 x h; more = λ k i. absurd (omega arith); last = last_1 x h }

octets_cons : (x : ℕ) (xs : List ℕ) → x < 256 → IsTail xs → (k d : ℕ) → k < length (x ∷ xs) → get_or (x ∷ xs) k d < 256
octets_cons x xs h t zero d i = h
octets_cons x xs h t (suc k) d i = t.octets k d (omega arith)

more_cons : (x : ℕ) (xs : List ℕ) → 128 ≤ x → IsTail xs → (k : ℕ) → k + 1 < length (x ∷ xs) → 128 ≤ get_or (x ∷ xs) k 0
more_cons x xs h t zero i = h
more_cons x xs h t (suc k) i = t.more k (omega arith)

last_cons : (x : ℕ) (xs : List ℕ) → IsTail xs → (k : ℕ) → k + 1 ≡ length (x ∷ xs) → get_or (x ∷ xs) k 0 < 128
last_cons x xs t zero i = absurd (let some = t.some in omega arith)
last_cons x xs t (suc k) i = t.last k (omega arith)

tail_cons : (x : ℕ) (xs : List ℕ) → x < 128 → IsTail xs → IsTail ((128 + x) ∷ xs)
tail_cons x xs h t = record {
  some = omega arith;
  octets = octets_cons (128 + x) xs (omega arith) t;
  more =
      more_cons (128 + x) xs (omega arith) t;
  last = last_cons (128 + x) xs t;
}

groups_of_tail : (xs : List ℕ) → IsTail xs → length xs ≤ 5 → (get_or xs 0 0 ≡ 128 → ⊥) → grouped xs < 4294967296
    → IsGroups xs
groups_of_tail xs t l e s =
    let some = t.some in
    record {
      size = record {
        some = some;
        few = l;
        within = omega arith;
        last = t.last (length xs - 1) (omega arith);
        more = t.more;
      };
      octets = t.octets;
      least = e;
      small = s;
    }

-- what is written is read so
pub record Written (n : ℕ) (xs : List ℕ) : Type 0 where
  pub groups : IsGroups xs
  pub number : grouped xs ≡ n

subidentifier_written : (n : ℕ) → n < 4294967296 → Written n (subidentifier n)
subidentifier_written n top =
    ⊎_elim
    (λ (h : n < 128).
    let xs = n % 128 ∷ [] in
    let g : grouped xs ≡ n = omega arith in
    subst (λ ys. Written n ys) (sym (sub_1 n h))
    (record {
      groups = groups_of_tail xs (tail_1 (n % 128) (omega arith)) (omega arith) (λ e. omega arith)
          (omega arith);
      number = g;
    }))
    (λ (l : 128 ≤ n). ⊎_elim
    (λ (h : n < 16384).
    let xs = (128 + n / 128 % 128) ∷ n % 128 ∷ [] in
    let g : grouped xs ≡ n = omega arith in
    let t = tail_cons (n / 128 % 128) (n % 128 ∷ []) (omega arith) (tail_1 (n % 128) (omega arith)) in
    subst (λ ys. Written n ys) (sym (sub_2 n l h))
    (record { groups = groups_of_tail xs t (omega arith) (λ e. omega arith) (omega arith); number = g }))
    (λ (l : 16384 ≤ n). ⊎_elim
    (λ (h : n < 2097152).
    let xs = (128 + n / 16384 % 128) ∷ (128 + n / 128 % 128) ∷ n % 128 ∷ [] in
    let g : grouped xs ≡ n = omega arith in
    let t = tail_cons (n / 16384 % 128) _ (omega arith)
    (tail_cons (n / 128 % 128) (n % 128 ∷ []) (omega arith) (tail_1 (n % 128) (omega arith))) in
    subst (λ ys. Written n ys) (sym (sub_3 n l h))
    (record { groups = groups_of_tail xs t (omega arith) (λ e. omega arith) (omega arith); number = g }))
    (λ (l : 2097152 ≤ n). ⊎_elim
    (λ (h : n < 268435456).
    let xs = (128 + n / 2097152 % 128) ∷ (128 + n / 16384 % 128) ∷ (128 + n / 128 % 128) ∷ n % 128 ∷ [] in
    let g : grouped xs ≡ n = omega arith in
    let t = tail_cons (n / 2097152 % 128) _ (omega arith)
    (tail_cons (n / 16384 % 128) _ (omega arith)
    (tail_cons (n / 128 % 128) (n % 128 ∷ []) (omega arith) (tail_1 (n % 128) (omega arith)))) in
    subst (λ ys. Written n ys) (sym (sub_4 n l h))
    (record { groups = groups_of_tail xs t (omega arith) (λ e. omega arith) (omega arith); number = g }))
    (λ (l : 268435456 ≤ n).
    let xs = (128 + n / 268435456 % 128) ∷ (128 + n / 2097152 % 128) ∷ (128 + n / 16384 % 128) ∷ (128 + n / 128 % 128)
    ∷ n % 128 ∷ [] in
    let g : grouped xs ≡ n = omega arith in
    let t = tail_cons (n / 268435456 % 128) _ (omega arith)
    (tail_cons (n / 2097152 % 128) _ (omega arith)
    (tail_cons (n / 16384 % 128) _ (omega arith)
    (tail_cons (n / 128 % 128) (n % 128 ∷ []) (omega arith) (tail_1 (n % 128) (omega arith))))) in
    subst (λ ys. Written n ys) (sym (sub_5 n l))
    (record { groups = groups_of_tail xs t (omega arith) (λ e. omega arith) (omega arith); number = g }))
    (cases_lt n 268435456))
    (cases_lt n 2097152))
    (cases_lt n 16384))
    (cases_lt n 128)

pub same_size : (xs : List ℕ) (s t : ℕ) → IsSize xs s → IsSize xs t → s ≡ t
same_size xs s t f g =
    ⊎_elim
    (λ (e : s ≡ t). e)
    (λ (o : (s < t) ⊎ (t < s)). ⊎_elim
    (λ (l : s < t). absurd (let a = g.more (s - 1) (let b = f.some in omega arith) in let b = f.last in omega arith))
    (λ (l : t < s). absurd (let a = f.more (t - 1) (let b = g.some in omega arith) in let b = g.last in omega arith))
    o)
    (cases_order s t)

pub size_of_front : (xs ys rest : List ℕ) → xs ≡ ys ++ rest → IsSize ys (length ys) → IsSize xs (length ys)
size_of_front xs ys rest e s =
    let some = s.some in
    let long : length xs ≡ length ys + length rest = ap length e ∙ length-append ys rest in
    let at : (k : ℕ) → k < length ys → get_or xs k 0 ≡ get_or ys k 0 = λ k h. ap (λ zs. get_or zs k 0) e
    ∙ get_or_append_left ys rest 0 k h in
    record {
      some = some;
      few = s.few;
      within = omega arith;
      last = rw (at (length ys - 1) (omega arith)) s.last;
      more = λ k h. rw (at k (omega arith)) (s.more k h);
    }

pub size_of_take : (xs : List ℕ) (n : ℕ) → IsSize xs n → IsSize (take n xs) (length (take n xs))
size_of_take xs n s =
    let long : length (take n xs) ≡ n = length-take-le n xs s.within in
    let some = s.some in
    let at : (k : ℕ) → k < n → get_or (take n xs) k 0 ≡ get_or xs k 0 = λ k h. get_or-take n xs k 0 h in
    rw long record {
      some = some;
      few = s.few;
      within = omega arith;
      last = rw (at (n - 1) (omega arith)) s.last;
      more = λ k h. rw (at k (omega arith)) (s.more k h);
    }

-- a subidentifier in front of octets
pub record InFront (n : ℕ) (octets : List ℕ) : Type 0 where
  pub size : IsSize octets (length (subidentifier n))
  pub front : take (length (subidentifier n)) octets ≡ subidentifier n
  pub least : get_or octets 0 0 ≡ 128 → ⊥
  pub number : grouped (subidentifier n) ≡ n

pub in_front : (n : ℕ) (octets rest : List ℕ) → n < 4294967296 → octets ≡ subidentifier n ++ rest → InFront n octets
in_front n octets rest h e =
    let w = subidentifier_written n h in
    let some = w.groups.size.some in
    let at : get_or octets 0 0 ≡ get_or (subidentifier n) 0 0 = ap (λ zs. get_or zs 0 0) e
    ∙ get_or_append_left (subidentifier n) rest 0 0 some in
    record {
      size = size_of_front octets (subidentifier n) rest e w.groups.size;
      front = ap (λ zs. take (length (subidentifier n)) zs) e
          ∙ take_at (subidentifier n) rest (length (subidentifier n)) refl;
      least = λ f. w.groups.least (sym at ∙ f);
      number = w.number;
    }

pub front_is_groups : (octets : List ℕ) (n : ℕ) → All (λ x. x < 256) octets → IsSize octets n
    → (get_or octets 0 0 ≡ 128 → ⊥) → grouped (take n octets) < 4294967296 → IsGroups (take n octets)
front_is_groups octets n h s e small =
    let some = s.some in
    let long : length (take n octets) ≡ n = length-take-le n octets s.within in
    let within = s.within in
    record {
      size = size_of_take octets n s;
      octets = λ k d i. rw (get_or-take n octets k d (omega arith)) (h k d (omega arith));
      least = λ f. e (sym (get_or-take n octets 0 0 some) ∙ f);
      small = small;
    }

-- no subidentifier begins another
pub one_subidentifier : (n m : ℕ) (xs ys : List ℕ) → n < 4294967296 → m < 4294967296 → subidentifier n
    ++ xs ≡ subidentifier m ++ ys → (n ≡ m) × (xs ≡ ys)
one_subidentifier n m xs ys h i e =
    let f = in_front n (subidentifier n ++ xs) xs h refl in
    let g = in_front m (subidentifier n ++ xs) ys i e in
    let long : length (subidentifier n) ≡ length (subidentifier m) =
    same_size (subidentifier n ++ xs) (length (subidentifier n)) (length (subidentifier m)) f.size g.size in
    let same : subidentifier n ≡ subidentifier m = sym f.front
    ∙ (ap (λ k. take k (subidentifier n ++ xs)) long ∙ g.front) in
    let number : n ≡ m = sym f.number ∙ (ap grouped same ∙ g.number) in
    (number, append_cancel_left (subidentifier n) xs ys (e ∙ ap (λ zs. zs ++ ys) (sym same)))

pub some_octets : (n : ℕ) → n < 4294967296 → 0 < length (subidentifier n)
some_octets n h = (subidentifier_written n h).groups.size.some
