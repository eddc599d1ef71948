-- What spells a tree is read so, and what has a fault is found to have it: X.690, sections 8.1.2 to 8.1.5.
use Rattle.std.proofs.Common.{◌≡◌, ℕ, zero, suc, ◌+◌, ◌-◌, ◌<◌, ◌≤◌, ◌&&◌, Bool, true, false, List, [], ◌∷◌, ◌++◌}
use Rattle.std.proofs.Common.{length, Option, Some, None, nat_le, sym, ap, ◌∙◌, refl, arith, append_assoc}
use Rattle.std.proofs.Common.{length-append}
use Rattle.std.specs.Prelude.{Ok, Err}
use Rattle.std.proofs.lemmas.Bool.{le-leb, false≢true}
use Rattle.std.proofs.lemmas.List.{append-nil, take_at, drop_at}
use Rattle.term_values.specs.declared.ber_kind.BerKind.TheVariants.{Truncated}
use Rattle.term_values.specs.declared.tag.Tag.{Tag}
use Rattle.term_values.specs.Ber.{IsExtent, Encloses, Parts, Spells, SpellsAll}
use Rattle.term_values.specs.FirstFault.{IsPast}
use Rattle.term_values.specs.BerReading.{Fault, Front, AllRead, Reader, result_then, front_of, stop_at, or_more}
use Rattle.term_values.specs.BerReading.{members, primitive_value, constructed_value, reading}
use Rattle.term_values.specs.Tree.{TreeValue, TreeValues}
use Rattle.term_values.specs.Tree.TreeValue.{Primitive, Constructed}
use Rattle.term_values.specs.Tree.TreeValues.{Nothing, Then}
use Rattle.term_values.proofs.LengthLaws.{IsWithin, length_read}
use Rattle.term_values.proofs.TagLaws.{tag_read}
use Rattle.term_values.proofs.ReadingLaws.{FrontSplit, Stop, appended, spelling_begins}

-- a header is read as it is split
pub front_read : (full : Bool) (behind : Option ℕ) (octets : List ℕ) (front : Front) →
    FrontSplit full behind octets front → front_of full behind octets ≡ Ok front
unfolding front_of
front_read full behind octets front s =
    ap (front_of full behind) s.whole
    ∙ rw (
      tag_read full front.constructed behind front.tag s.identifier (s.size ++ front.rest) s.is_identifier
          s.has_room,
      length_read front.constructed behind front.extent s.size front.rest s.is_extent s.within,
    ) refl

enough : (behind : Option ℕ) (octets : List ℕ) (n : ℕ) → n ≤ length octets → ¬ (IsPast behind octets n)
enough None octets n h p = p
enough (Some missing) octets n h p = let l : length octets + missing < n = p in omega arith

encloses_within : (behind extent : Option ℕ) (contents inner rest : List ℕ) → Encloses extent contents inner →
    IsWithin behind extent (inner ++ rest)
encloses_within behind None contents inner rest e = tt
encloses_within behind (Some n) contents inner rest e =
    let l = length-append inner rest in
    let k = ap length e.1 in
    let m = e.0 in
    enough behind (inner ++ rest) n (omega arith)

pub parts_split : (full constructed : Bool) (behind : Option ℕ) (tag : Tag) (contents bytes rest : List ℕ)
    (p : Parts constructed tag contents bytes) → full && constructed ≡ false →
    FrontSplit full behind (bytes ++ rest) (record {
      constructed = constructed;
      tag = tag;
      extent = p.extent;
      rest =
          p.rest ++ rest;
    })
parts_split full constructed behind tag contents bytes rest p room = record {
  identifier = p.identifier;
  size = p.size;
  whole = ap (λ xs. xs ++ rest) p.whole ∙ sym (appended p.identifier p.size p.rest rest);
  is_identifier = p.is_identifier;
  has_room = room;
  is_extent = p.is_extent;
  within = encloses_within behind p.extent contents p.rest rest p.encloses;
}

primitive_read : (end : ℕ) (tag : Tag) (extent : Option ℕ) (contents size inner rest : List ℕ) →
    IsExtent false extent size → Encloses extent contents inner →
    primitive_value end tag extent (inner ++ rest) ≡ Ok (Primitive tag contents, rest)
primitive_read end tag None contents size inner rest i e = absurd (false≢true i.0)
primitive_read end tag (Some n) contents size inner rest i e =
    let l = length-append contents rest in
    let there : nat_le (length contents) (length (contents ++ rest)) ≡ true =
    le-leb (length contents) (length (contents ++ rest)) (omega arith) in
    rw (e.1, e.0, there, take_at contents rest (length contents) refl, drop_at contents rest (length contents) refl)
    refl

-- values before others
abbrev pub before_all : TreeValues → AllRead → AllRead
before_all Nothing r = r
before_all (Then x xs) r = result_then (λ others. Ok (Then x others.0, others.1)) (before_all xs r)

pub before_fault : (xs : TreeValues) (f : Fault) → before_all xs (Err f) ≡ Err f
before_fault Nothing f = refl
before_fault (Then x xs) f = ap (result_then (λ others. Ok (Then x others.0, others.1))) (before_fault xs f)

before_rest : (xs : TreeValues) (rest : List ℕ) → before_all xs (Ok (Nothing, rest)) ≡ Ok (xs, rest)
before_rest Nothing rest = refl
before_rest (Then x xs) rest = ap (result_then (λ others. Ok (Then x others.0, others.1))) (before_rest xs rest)

-- where no further value begins
stops : (read : Reader) (stop : Stop) (tail rest : List ℕ) (m : ℕ) → stop tail ≡ Some (Ok rest) →
    members read stop m tail ≡ Ok (Nothing, rest)
stops read stop tail rest zero e = ap (λ s. or_more s (Err (0, Truncated))) e
stops read stop tail rest (suc m) e =
    ap (λ s. or_more s
    (result_then (λ first. result_then (λ others. Ok (Then first.0 others.0, others.1)) (members read stop m first.1))
    (read tail))) e

pub breaks : (read : Reader) (stop : Stop) (tail : List ℕ) (f : Fault) (m : ℕ) → stop tail ≡ Some (Err f) →
    members read stop m tail ≡ Err f
breaks read stop tail f zero e = ap (λ s. or_more s (Err (0, Truncated))) e
breaks read stop tail f (suc m) e =
    ap (λ s. or_more s
    (result_then (λ first. result_then (λ others. Ok (Then first.0 others.0, others.1)) (members read stop m first.1))
    (read tail))) e

-- where a value begins
goes : (read : Reader) (stop : Stop) (octets : List ℕ) (m : ℕ) → stop octets ≡ None →
    members read stop (suc m) octets ≡ result_then
    (λ first. result_then (λ others. Ok (Then first.0 others.0, others.1)) (members read stop m first.1))
    (read octets)
goes read stop octets m e =
    ap (λ s. or_more s
    (result_then (λ first. result_then (λ others. Ok (Then first.0 others.0, others.1)) (members read stop m first.1))
    (read octets))) e

pub fails : (read : Reader) (stop : Stop) (tail : List ℕ) (f : Fault) (m : ℕ) → stop tail ≡ None → read tail ≡ Err f →
    0 < length tail → length tail ≤ m → members read stop m tail ≡ Err f
fails read stop tail f zero e r some few = absurd (omega arith)
fails read stop tail f (suc m) e r some few = goes read stop tail m e
    ∙ ap (result_then
    (λ first. result_then (λ others. Ok (Then first.0 others.0, others.1)) (members read stop m first.1))) r

-- a value begins with an octet that ends no contents
abbrev pub Goes : Stop → Type 0
Goes stop = (first : ℕ) (others : List ℕ) → 0 < first → stop (first ∷ others) ≡ None

pub definite_goes : (behind : Option ℕ) (end : ℕ) → Goes (stop_at None behind end)
definite_goes behind end first others h = refl

pub indefinite_goes : (value : ℕ) (behind : Option ℕ) (end : ℕ) → Goes (stop_at (Some value) behind end)
indefinite_goes value behind end zero others h = absurd (omega arith)
indefinite_goes value behind end (suc n) others h = refl

-- what spells a tree is read so
abbrev pub IsRead : ℕ → Type 0
IsRead depth = (behind : Option ℕ) (end : ℕ) (bytes rest : List ℕ) (tree : TreeValue) → Spells depth bytes tree →
    reading depth behind end (bytes ++ rest) ≡ Ok (tree, rest)

-- whole values, and then what stands behind them
pub all_read : (depth : ℕ) → IsRead depth → (behind : Option ℕ) (end : ℕ) (stop : Stop) → Goes stop →
    (n : ℕ) (bytes tail : List ℕ) (xs : TreeValues) (r : AllRead) → SpellsAll depth bytes xs →
    ((m : ℕ) → length tail ≤ m → members (reading depth behind end) stop m tail ≡ r) → length (bytes ++ tail) ≤ n →
    members (reading depth behind end) stop n (bytes ++ tail) ≡ before_all xs r
all_read depth read behind end stop g n bytes tail Nothing r s ends few =
    let same : bytes ++ tail ≡ tail = ap (λ ys. ys ++ tail) s in
    let l = ap length same in
    ap (members (reading depth behind end) stop n) same ∙ ends n (omega arith)
all_read depth read behind end stop g zero bytes tail (Then x xs) r s ends few =
    absurd (let b = spelling_begins depth s.0 x s.3 in let k = ap length b.whole in let e = ap length s.2 in let l =
    length-append s.0 s.1 in let m = length-append bytes tail in omega arith)
all_read depth read behind end stop g (suc n) bytes tail (Then x xs) r s ends few =
    let b = spelling_begins depth s.0 x s.3 in
    let whole : bytes ++ tail ≡ s.0 ++ (s.1 ++ tail) = ap (λ ys. ys ++ tail) s.2 ∙ append_assoc s.0 s.1 tail in
    let none_here : stop (s.0 ++ (s.1 ++ tail)) ≡ None = ap (λ ys. stop (ys ++ (s.1 ++ tail))) b.whole
    ∙ g b.first (b.others ++ (s.1 ++ tail)) b.used in
    let k = ap length b.whole in
    let e = ap length s.2 in
    let l = length-append s.0 s.1 in
    let m = length-append bytes tail in
    let o = length-append s.1 tail in
    let next : members (reading depth behind end) stop n (s.1 ++ tail) ≡ before_all xs r =
    all_read depth read behind end stop g n s.1 tail xs r s.4 ends (omega arith) in
    ap (members (reading depth behind end) stop (suc n)) whole
    ∙ (goes (reading depth behind end) stop (s.0 ++ (s.1 ++ tail)) n none_here
    ∙ (ap (result_then
    (λ first.
    result_then (λ others. Ok (Then first.0 others.0, others.1))
    (members (reading depth behind end) stop n first.1))) (read behind end s.0 (s.1 ++ tail) x s.3)
    ∙ ap (result_then (λ others. Ok (Then x others.0, others.1))) next))

constructed_read : (depth : ℕ) → IsRead depth →
    (behind : Option ℕ) (end value : ℕ) (tag : Tag) (extent : Option ℕ) (contents inner rest : List ℕ)
    (inside : TreeValues) → Encloses extent contents inner → SpellsAll depth contents inside →
    constructed_value (reading depth) behind end value tag extent (inner ++ rest) ≡ Ok (Constructed tag inside, rest)
constructed_read depth read behind end value tag (Some n) contents inner rest inside e s =
    let l = length-append contents rest in
    let filled : length contents - length (contents ++ rest) ≡ 0 = omega arith in
    let stop = end - length rest in
    let all : members (reading depth (Some 0) stop) (stop_at None (Some 0) stop) (length contents) contents ≡ Ok
    (inside, []) =
    ap (members (reading depth (Some 0) stop) (stop_at None (Some 0) stop) (length contents))
    (sym (append-nil contents))
    ∙ (all_read depth read (Some 0) stop (stop_at None (Some 0) stop) (definite_goes (Some 0) stop) (length contents)
    contents [] inside (Ok (Nothing, [])) s
    (λ m h. stops (reading depth (Some 0) stop) (stop_at None (Some 0) stop) [] [] m refl)
    (omega (arith, length-append contents []))
    ∙ before_rest inside []) in
    rw (
      e.1,
      e.0,
      take_at contents rest (length contents) refl,
      drop_at contents rest (length contents) refl,
      filled,
      all,
    ) refl
constructed_read depth read behind end value tag None contents inner rest inside e s =
    let stop = stop_at (Some value) behind end in
    let whole : inner ++ rest ≡ contents ++ (0 ∷ 0 ∷ rest) = ap (λ xs. xs ++ rest) e
    ∙ append_assoc contents (0 ∷ 0 ∷ []) rest in
    let all : members (reading depth behind end) stop (length (contents ++ (0 ∷ 0 ∷ rest)))
    (contents ++ (0 ∷ 0 ∷ rest)) ≡ Ok (inside, rest) =
    all_read depth read behind end stop (indefinite_goes value behind end) (length (contents ++ (0 ∷ 0 ∷ rest)))
    contents (0 ∷ 0 ∷ rest) inside (Ok (Nothing, rest)) s
    (λ m h. stops (reading depth behind end) stop (0 ∷ 0 ∷ rest) rest m refl) (omega arith)
    ∙ before_rest inside rest in
    rw (whole, all) refl

pub spelling_read : (depth : ℕ) → IsRead depth
spelling_read zero behind end bytes rest (Primitive tag contents) s =
    rw (front_read true behind (bytes ++ rest) _ (parts_split true false behind tag contents bytes rest s refl))
    (primitive_read end tag s.extent contents s.size s.rest rest s.is_extent s.encloses)
spelling_read (suc depth) behind end bytes rest (Primitive tag contents) s =
    rw (front_read false behind (bytes ++ rest) _ (parts_split false false behind tag contents bytes rest s refl))
    (primitive_read end tag s.extent contents s.size s.rest rest s.is_extent s.encloses)
spelling_read zero behind end bytes rest (Constructed tag inside) s = absurd s
spelling_read (suc depth) behind end bytes rest (Constructed tag inside) s =
    rw (front_read false behind (bytes ++ rest) _ (parts_split false true behind tag s.0 bytes rest s.1 refl))
    (constructed_read depth (spelling_read depth) behind end (end - length (bytes ++ rest)) tag s.1.extent s.0
    s.1.rest rest inside s.1.encloses s.2)
