-- What a reader answers at its exits, and what the answer of the whole says: X.690, section 8.1.
use Rattle.std.proofs.Common.{◌≡◌, ℕ, zero, suc, ◌+◌, ◌-◌, ◌≤◌, ◌==◌, min, true, false, List, ◌++◌, length, drop, take}
use Rattle.std.proofs.Common.{Option, Some, None, sym, ap, ◌∙◌, refl, subst, arith, length-drop}
use Rattle.std.specs.Prelude.{Result, Ok, Err, IfOk, IfErr}
use Rattle.std.specs.Result.{IsErrAnd}
use Rattle.std.proofs.lemmas.List.{drop-drop, take-append-drop, append_cancel_right, take_rest}
use Rattle.std.proofs.lemmas.Bool.{ne_eqb}
use Rattle.std.proofs.lemmas.Option.{none-some, same_Some}
use Rattle.term_values.specs.declared.ber_kind.BerKind.{BerKind}
use Rattle.term_values.specs.Ber.{most_depth, Spells}
use Rattle.term_values.specs.BerReading.{Fault, AllRead, result_then, front_of, stop_at, members, primitive_value}
use Rattle.term_values.specs.BerReading.{definite_value, constructed_value, reading}
use Rattle.term_values.specs.FirstFault.{IsFirstFault, place_of}
use Rattle.term_values.specs.SpellingLaws.{AreOctets, Spelling}
use Rattle.term_values.specs.Tree.{TreeValue}
use Rattle.term_values.specs.Tree.TreeValue.{Constructed}
use Rattle.term_values.specs.declared.tag.Tag.{Tag}
use Rattle.term_values.proofs.ContentsLaws.{error_same, value_same, reading_told}
use Rattle.term_values.proofs.Faults.{fault_found}
use Rattle.term_values.proofs.ReadingLaws.{ReadingTold, is_full}
use Rattle.term_values.proofs.Spelled.{spelling_read}
use Rattle.ber_tree.specs.declared.ber_refusal.BerRefusal.{BerRefusal}
use Rattle.ber_tree.specs.declared.ber_refusal.BerRefusal.TheVariants as refusal
use Rattle.ber_tree.specs.declared.header_reading.Header.{Header}
use Rattle.ber_tree.specs.Reading.{Refuses, Answers, IsFront, IsStop, IsCause, Gives, body, front_at}
use Rattle.ber_tree.proofs.HeaderSteps.{take_there}
use Rattle.ber_tree.proofs.ReadingSteps.{Leads, inside, leads_broken, leads_fault}

-- an exit with a refusal
pub exit_answers : {T : Type 0} (octets : List ℕ) (a : Result (T × List ℕ) Fault) (r : Result (T × ℕ) BerRefusal)
    (e : BerRefusal) → IsErrAnd r (λ d. d ≡ e) → Refuses a e → Answers octets a r
exit_answers octets a (Ok f) e is refuses = absurd is
exit_answers octets a (Err d) e is refuses = subst (λ (x : BerRefusal). Refuses a x) (sym is) refuses

pub refuses_by : {T U : Type 0} (a : Result T Fault) (b : Result U Fault) (e : BerRefusal) →
    ((f : Fault) → a ≡ Err f → b ≡ Err f) → Refuses a e → Refuses b e
refuses_by a b (refusal.Fault at kind) h r = h (at, kind) r
refuses_by a b refusal.Memory h r = tt

-- a value is its header and its body
pub by_body : (depth : ℕ) (behind : Option ℕ) (end : ℕ) (octets : List ℕ) (header : Header) →
    front_of (is_full depth) behind octets ≡ Ok (front_at octets header) →
    reading depth behind end octets ≡ body depth behind end (end - length octets) header (drop header.size octets)
by_body zero behind end octets header e = rw e refl
by_body (suc depth) behind end octets header e = rw e refl

pub by_fault : (depth : ℕ) (behind : Option ℕ) (end : ℕ) (octets : List ℕ) (kind : BerKind) →
    front_of (is_full depth) behind octets ≡ Err kind →
    reading depth behind end octets ≡ Err (place_of kind octets end, kind)
by_fault zero behind end octets kind e = rw e refl
by_fault (suc depth) behind end octets kind e = rw e refl

pub body_zero : (depth : ℕ) (behind : Option ℕ) (end place : ℕ) (header : Header) (rest : List ℕ) → depth ≡ 0 →
    body depth behind end place header rest ≡ primitive_value end header.tag header.extent rest
body_zero depth behind end place header rest e = ap (λ d. body d behind end place header rest) e

pub body_plain : (depth : ℕ) (behind : Option ℕ) (end place : ℕ) (header : Header) (rest : List ℕ) →
    header.constructed ≡ false →
    body depth behind end place header rest ≡ primitive_value end header.tag header.extent rest
body_plain zero behind end place header rest e = refl
body_plain (suc depth) behind end place header rest e = rw e refl

pub body_inner : (depth inner : ℕ) (behind : Option ℕ) (end place : ℕ) (header : Header) (rest : List ℕ) →
    depth ≡ inner + 1 → header.constructed ≡ true →
    body depth behind end place header rest ≡ constructed_value (reading inner) behind end place header.tag
    header.extent rest
body_inner depth inner behind end place header rest d e =
    ap (λ k. body k behind end place header rest) (let s : depth ≡ suc inner = omega arith in s) ∙ rw e refl

-- the answer to a value, by that to its body
pub whole_refuses : (depth : ℕ) (behind : Option ℕ) (end : ℕ) (octets : List ℕ) (header : Header) (e : BerRefusal) →
    front_of (is_full depth) behind octets ≡ Ok (front_at octets header) →
    Refuses (body depth behind end (end - length octets) header (drop header.size octets)) e →
    Refuses (reading depth behind end octets) e
whole_refuses depth behind end octets header e f r =
    refuses_by (body depth behind end (end - length octets) header (drop header.size octets))
    (reading depth behind end octets) e (λ fault was. by_body depth behind end octets header f ∙ was) r

pub whole_answers : (depth : ℕ) (behind : Option ℕ) (end : ℕ) (octets : List ℕ) (header : Header) (tree : TreeValue)
    (size : ℕ) → front_of (is_full depth) behind octets ≡ Ok (front_at octets header) → header.size ≤ length octets →
    (size ≤ length (drop header.size octets))
    × (body depth behind end (end - length octets) header (drop header.size octets) ≡ Ok
    (tree, drop size (drop header.size octets))) → (header.size + size ≤ length octets)
    × (reading depth behind end octets ≡ Ok (tree, drop (header.size + size) octets))
whole_answers depth behind end octets header tree size f h a =
    let few = a.0 in (
      omega (arith, length-drop header.size octets),
      by_body depth behind end octets header f
          ∙ (a.1 ∙ ap (λ xs. Ok (tree, xs)) (drop-drop size header.size octets)),
    )

-- what the whole answer says

front_here : (bytes : List ℕ) (tree : TreeValue) (size : ℕ) → size ≤ length bytes →
    Spelling most_depth bytes tree (drop size bytes) → IsFront bytes (tree, size)
front_here bytes tree size h s =
    let same : s.front ++ drop size bytes ≡ take size bytes ++ drop size bytes = sym s.whole
    ∙ sym (take-append-drop size bytes) in
    record {
      within = h;
      spells =
          subst (λ xs. Spells most_depth xs tree) (append_cancel_right s.front (take size bytes) (drop size bytes) same)
          s.spells;
    }

told_ok : (bytes : List ℕ) (tree : TreeValue) (rest : List ℕ) → AreOctets bytes →
    reading most_depth None (length bytes) bytes ≡ Ok (tree, rest) → Spelling most_depth bytes tree rest
told_ok bytes tree rest h e =
    subst (λ (q : Result (TreeValue × List ℕ) Fault). ReadingTold most_depth None (length bytes) bytes q) e
    (reading_told most_depth None (length bytes) bytes h)

told_err : (bytes : List ℕ) (place : ℕ) (kind : BerKind) → AreOctets bytes →
    reading most_depth None (length bytes) bytes ≡ Err (place, kind) → IsFirstFault bytes place kind
told_err bytes place kind h e =
    subst (λ (q : Result (TreeValue × List ℕ) Fault). ReadingTold most_depth None (length bytes) bytes q) e
    (reading_told most_depth None (length bytes) bytes h)

pub answer_spells : (bytes : List ℕ) (r : Result (TreeValue × ℕ) BerRefusal) → AreOctets bytes →
    Answers bytes (reading most_depth None (length bytes) bytes) r → IfOk r (IsFront bytes)
answer_spells bytes (Ok (tree, size)) h a = front_here bytes tree size a.0 (told_ok bytes tree (drop size bytes) h a.1)
answer_spells bytes (Err e) h a = tt

cause : (bytes : List ℕ) (e : BerRefusal) → AreOctets bytes →
    Refuses (reading most_depth None (length bytes) bytes) e → IsCause bytes e
cause bytes (refusal.Fault at kind) h a = told_err bytes at kind h a
cause bytes refusal.Memory h a = tt

pub answer_fault : (bytes : List ℕ) (r : Result (TreeValue × ℕ) BerRefusal) → AreOctets bytes →
    Answers bytes (reading most_depth None (length bytes) bytes) r → IfErr r (IsCause bytes)
answer_fault bytes (Ok f) h a = tt
answer_fault bytes (Err e) h a = cause bytes e h a

clash : {T E : Type 0} (x : T) (e : E) → ◌≡◌ {A = Result T E} (Ok x) (Err e) → ⊥
clash x e p = absurd (cc)

pub answer_spelt : (bytes : List ℕ) (r : Result (TreeValue × ℕ) BerRefusal) →
    Answers bytes (reading most_depth None (length bytes) bytes) r → (tree : TreeValue) (size : ℕ) →
    IsFront bytes (tree, size) → Gives r (Ok (tree, size))
answer_spelt bytes r a tree size f = gives r a
  where
    read : reading most_depth None (length bytes) bytes ≡ Ok (tree, drop size bytes)
    read = ap (reading most_depth None (length bytes)) (sym (take-append-drop size bytes))
        ∙ spelling_read most_depth None (length bytes) (take size bytes) (drop size bytes) tree f.spells

    gives : (q : Result (TreeValue × ℕ) BerRefusal) → Answers bytes (reading most_depth None (length bytes) bytes) q →
        Gives q (Ok (tree, size))
    gives (Ok (x, k)) b =
        let same = value_same (tree, drop size bytes) (x, drop k bytes) (sym read ∙ b.1) in
        let tail : drop size bytes ≡ drop k bytes = ap (λ (p : TreeValue × List ℕ). p.1) same in
        let long = ap length tail in
        let here = b.0 in
        let there = f.within in
        let sizes : size ≡ k = omega (arith, length-drop size bytes, length-drop k bytes) in
        let first : ◌≡◌ {A = TreeValue × ℕ} (tree, size) (x, size) =
        ap (λ (t : TreeValue). (t, size)) (ap (λ (p : TreeValue × List ℕ). p.0) same) in
        let second : ◌≡◌ {A = TreeValue × ℕ} (x, size) (x, k) = ap (λ (n : ℕ). (x, n)) sizes in
        ap (λ (p : TreeValue × ℕ). Ok p) (first ∙ second)
    gives (Err (refusal.Fault at kind)) b = absurd (clash _ _ (sym read ∙ b))
    gives (Err refusal.Memory) b = tt

pub answer_faulty : (bytes : List ℕ) (r : Result (TreeValue × ℕ) BerRefusal) →
    Answers bytes (reading most_depth None (length bytes) bytes) r → (at : ℕ) (kind : BerKind) →
    IsFirstFault bytes at kind → Gives r (Err (at, kind))
answer_faulty bytes r a at kind f = gives r a
  where
    found : reading most_depth None (length bytes) bytes ≡ Err (at, kind)
    found = fault_found most_depth None bytes (length bytes) at kind f

    gives : (q : Result (TreeValue × ℕ) BerRefusal) → Answers bytes (reading most_depth None (length bytes) bytes) q →
        Gives q (Err (at, kind))
    gives (Ok (x, k)) b = absurd (clash _ _ (sym b.1 ∙ found))
    gives (Err (refusal.Fault place sort)) b =
        ap (λ (g : Fault). Err g) (error_same (at, kind) (place, sort) (sym found ∙ b))
    gives (Err refusal.Memory) b = tt

-- the test of the depth
pub full_is : (depth : ℕ) → (depth == 0) ≡ is_full depth
full_is zero = refl
full_is (suc depth) = ne_eqb (suc depth) 0 (λ e. omega arith)

-- the values inside a definite one, by what the code counts
abbrev filling : ℕ → ℕ → ℕ → List ℕ → AllRead
filling depth missing stop xs =
    members (reading depth (Some missing) stop) (stop_at None (Some missing) stop) (length xs) xs

pub definite_refuses : (depth end : ℕ) (tag : Tag) (size there : ℕ) (octets : List ℕ) (e : BerRefusal) →
    there ≡ min (length octets) size →
    Refuses (filling depth (size - there) (end - (length octets - there)) (take there octets)) e →
    Refuses (definite_value (reading depth) end tag size octets) e
definite_refuses depth end tag size there octets e h r =
    let contents : take there octets ≡ take size octets = ap (λ k. take k octets) h ∙ take_there size octets in
    let missing : size - there ≡ size - length octets = omega arith in
    let stop : end - (length octets - there) ≡ end - length (drop size octets) =
    omega (arith, length-drop size octets) in
    let same : filling depth (size - there) (end - (length octets - there)) (take there octets) ≡ filling depth
    (size - length octets) (end - length (drop size octets)) (take size octets) =
    ap (λ m. filling depth m (end - (length octets - there)) (take there octets)) missing
    ∙ (ap (λ s. filling depth (size - length octets) s (take there octets)) stop
    ∙ ap (λ xs. filling depth (size - length octets) (end - length (drop size octets)) xs) contents) in
    refuses_by (filling depth (size - there) (end - (length octets - there)) (take there octets))
    (definite_value (reading depth) end tag size octets) e
    (λ f was. ap (result_then (λ inside. Ok (Constructed tag inside.0, drop size octets))) (sym same ∙ was)) r

-- what the test whether a value stops tells
pub none_stops : (s : Option (Result (List ℕ) Fault)) (ys : List ℕ) (o : Option ℕ) → o ≡ None → IsStop s ys (Ok o) →
    s ≡ None
none_stops s ys None e i = i
none_stops s ys (Some k) e i = absurd (none-some _ (sym e))

pub some_stops : (s : Option (Result (List ℕ) Fault)) (ys : List ℕ) (o : Option ℕ) (size : ℕ) → o ≡ Some size →
    IsStop s ys (Ok o) → (size ≤ length ys) × (s ≡ Some (Ok (drop size ys)))
some_stops s ys None size e i = absurd (none-some _ e)
some_stops s ys (Some k) size e i =
    subst (λ (n : ℕ). (n ≤ length ys) × (s ≡ Some (Ok (drop n ys)))) (same_Some k size e) i

pub broken : (depth : ℕ) (behind : Option ℕ) (end : ℕ) (value : Option ℕ) (octets : List ℕ) (at : ℕ)
    (trees : List TreeValue) (e : BerRefusal) → Leads depth behind end value octets at trees →
    IsStop (stop_at value behind end (drop at octets)) (drop at octets) (Err e) →
    Refuses (inside depth behind end value octets) e
broken depth behind end value octets at trees (refusal.Fault place kind) l i =
    leads_broken depth behind end value octets at trees (place, kind) l i
broken depth behind end value octets at trees refusal.Memory l i = absurd i

pub value_refuses : (depth : ℕ) (behind : Option ℕ) (end : ℕ) (value : Option ℕ) (octets : List ℕ) (at : ℕ)
    (trees : List TreeValue) (e : BerRefusal) → Leads depth behind end value octets at trees →
    stop_at value behind end (drop at octets) ≡ None → Refuses (reading depth behind end (drop at octets)) e →
    Refuses (inside depth behind end value octets) e
value_refuses depth behind end value octets at trees e l s r =
    refuses_by (reading depth behind end (drop at octets)) (inside depth behind end value octets) e
    (λ f was. leads_fault depth behind end value octets at trees f l s was) r

pub stop_rest : (value behind : Option ℕ) (end : ℕ) (octets : List ℕ) (at : ℕ) (r : Result (Option ℕ) BerRefusal) →
    IsStop (stop_at value behind end (take (length octets - at) (drop at octets)))
    (take (length octets - at) (drop at octets)) r →
    IsStop (stop_at value behind end (drop at octets)) (drop at octets) r
stop_rest value behind end octets at r i =
    subst (λ xs. IsStop (stop_at value behind end xs) xs r) (take_rest octets at) i
