-- What a reading of octets gives, from their front: X.690, sections 8.1.2 to 8.1.5. The relations are in Ber and
-- FirstFault.
use Rattle.std.specs.Prelude.{ℕ, zero, suc, ◌+◌, ◌-◌, ◌*◌, ◌/◌, ◌%◌, ◌^◌, ◌==◌, ◌&&◌, ◌||◌, List, [], ◌∷◌, Bool, true}
use Rattle.std.specs.Prelude.{false, nat_lt, nat_le, length, take, drop, if◌then◌else◌, Option, None, Some}
use Rattle.std.specs.Prelude.{option_and_then, Result, Ok, Err}
use Rattle.term_values.specs.declared.ber_kind.BerKind.{BerKind}
use Rattle.term_values.specs.declared.ber_kind.BerKind.TheVariants.{Truncated, TooDeep, BadTag, BadLength, NoEnd}
use Rattle.term_values.specs.declared.tag.Tag.{Tag}
use Rattle.term_values.specs.Ber.{most_depth}
use Rattle.term_values.specs.FirstFault.{when_cut, place_of, is_constructed, least}
use Rattle.term_values.specs.Octets.{number}
use Rattle.term_values.specs.Tree.{TreeValue, TreeValues}
use Rattle.term_values.specs.Tree.TreeValue.{Primitive, Constructed}
use Rattle.term_values.specs.Tree.TreeValues.{Nothing, Then}

-- a fault, with its place
abbrev pub Fault : Type 0
Fault = ℕ × BerKind

abbrev pub result_then : {T U E : Type 0} → (T → Result U E) → Result T E → Result U E
result_then f (Ok x) = f x
result_then f (Err e) = Err e

abbrev pub is_past : Option ℕ → List ℕ → ℕ → Bool
is_past None octets needed = false
is_past (Some missing) octets needed = nat_lt (length octets + missing) needed

-- the number of a tag in the high form, of which a part was read, and the octets behind it
abbrev pub number_at : Option ℕ → ℕ → List ℕ → Result (ℕ × List ℕ) BerKind
number_at behind begun [] = Err (when_cut behind)
number_at behind begun (octet ∷ octets) =
    let found = begun * 128 + octet % 128 in
    if begun == 0 && octet == 128 || nat_le (2 ^ 32) found then Err BadTag
    else (if nat_lt octet 128 then (if nat_lt found 31 then Err BadTag else Ok (found, octets)) else number_at behind
    found octets)

-- the form and the tag, and the octets behind them
abbrev pub tagged : Bool → ℕ → ℕ × List ℕ → Result ((Bool × Tag) × List ℕ) BerKind
tagged constructed class (found, rest) = Ok ((constructed, record { class = class; number = found }), rest)

unfoldable pub identifier_of : Bool → Option ℕ → List ℕ → Result ((Bool × Tag) × List ℕ) BerKind
identifier_of full behind [] = Err (when_cut behind)
identifier_of full behind (first ∷ octets) =
    if full && is_constructed first then Err TooDeep
    else (if first / 64 + first % 32 == 0 then Err BadTag
    else result_then (tagged (is_constructed first) (first / 64))
    (if first % 32 == 31 then number_at behind 0 octets else Ok (first % 32, octets)))

-- the length octets that are there of so many, and the octets behind them
abbrev pub long_length : Option ℕ → ℕ → List ℕ → Result (Option ℕ × List ℕ) BerKind
long_length behind count octets =
    let more = take count octets in
    if nat_le (2 ^ 32) (number more) || is_past behind octets (least count more) then Err BadLength
    else (if nat_lt (length octets) count then Err Truncated else Ok (Some (number more), drop count octets))

-- a length, or none in the indefinite form, and the octets behind it
unfoldable pub length_at : Bool → Option ℕ → List ℕ → Result (Option ℕ × List ℕ) BerKind
length_at constructed behind [] = Err (when_cut behind)
length_at constructed behind (first ∷ octets) =
    if nat_lt first 128 then (if is_past behind octets first then Err BadLength else Ok (Some first, octets))
    else (if first == 128 then (if constructed then Ok (None, octets) else Err BadLength)
    else (if nat_le 255 first then Err BadLength else long_length behind (first - 128) octets))

-- the form, the tag and the length of the value at the front, and the octets behind them
pub record Front : Type 0 where
  pub constructed : Bool
  pub tag : Tag
  pub extent : Option ℕ
  pub rest : List ℕ

abbrev pub sized : Bool × Tag → Option ℕ × List ℕ → Result Front BerKind
sized identifier size = Ok (record { constructed = identifier.0; tag = identifier.1; extent = size.0; rest = size.1 })

abbrev pub behind_tag : Option ℕ → (Bool × Tag) × List ℕ → Result Front BerKind
behind_tag behind (identifier, octets) = result_then (sized identifier) (length_at identifier.0 behind octets)

unfoldable pub front_of : Bool → Option ℕ → List ℕ → Result Front BerKind
front_of full behind octets = result_then (behind_tag behind) (identifier_of full behind octets)

-- what the end of the octets of a definite value says, none of which is left
abbrev pub definite_end : Option ℕ → ℕ → Result (List ℕ) Fault
definite_end (Some zero) end = Ok []
definite_end (Some (suc n)) end = Err (end, Truncated)
definite_end None end = Err (end, Truncated)

-- where no further value of a constructed one begins: the octets behind it, or a fault. An indefinite value has its
-- place.
abbrev pub stop_at : Option ℕ → Option ℕ → ℕ → List ℕ → Option (Result (List ℕ) Fault)
stop_at None behind end [] = Some (definite_end behind end)
stop_at None behind end (octet ∷ octets) = None
stop_at (Some value) behind end [] = Some (Err (value, NoEnd))
stop_at (Some value) behind end (zero ∷ []) = Some (Err (place_of (when_cut behind) (0 ∷ []) end, when_cut behind))
stop_at (Some value) behind end (zero ∷ zero ∷ octets) = Some (Ok octets)
stop_at (Some value) behind end (zero ∷ suc n ∷ octets) =
    Some (Err (place_of BadLength (0 ∷ suc n ∷ octets) end, BadLength))
stop_at (Some value) behind end (suc n ∷ octets) = None

abbrev pub Reader : Type 0
Reader = List ℕ → Result (TreeValue × List ℕ) Fault

abbrev pub AllRead : Type 0
AllRead = Result (TreeValues × List ℕ) Fault

abbrev pub or_more : Option (Result (List ℕ) Fault) → AllRead → AllRead
or_more (Some (Ok rest)) more = Ok (Nothing, rest)
or_more (Some (Err fault)) more = Err fault
or_more None more = more

-- the values up to a place where none begins, each as `read` gives it, at most so many, and the octets behind them
abbrev pub members : Reader → (List ℕ → Option (Result (List ℕ) Fault)) → ℕ → List ℕ → AllRead
members read stop zero octets = or_more (stop octets) (Err (0, Truncated))
members read stop (suc count) octets =
    or_more (stop octets)
    (result_then
    (λ first. result_then (λ others. Ok (Then first.0 others.0, others.1)) (members read stop count first.1))
    (read octets))

-- a primitive value whose header was read
abbrev pub primitive_value : ℕ → Tag → Option ℕ → Reader
primitive_value end tag None rest = Err (end, Truncated)
primitive_value end tag (Some n) rest =
    if nat_le n (length rest) then Ok (Primitive tag (take n rest), drop n rest) else Err (end, Truncated)

-- a constructed value of this length, whose header was read, with octets that stand before the place `end`
abbrev pub definite_value : (Option ℕ → ℕ → Reader) → ℕ → Tag → ℕ → Reader
definite_value read end tag n rest =
    let missing = Some (n - length rest) in
    let stop = end - length (drop n rest) in
    result_then (λ inside. Ok (Constructed tag inside.0, drop n rest))
    (members (read missing stop) (stop_at None missing stop) (length (take n rest)) (take n rest))

-- one of indefinite length, at this place
abbrev pub indefinite_value : (Option ℕ → ℕ → Reader) → Option ℕ → ℕ → ℕ → Tag → Reader
indefinite_value read behind end place tag rest =
    result_then (λ inside. Ok (Constructed tag inside.0, inside.1))
    (members (read behind end) (stop_at (Some place) behind end) (length rest) rest)

abbrev pub constructed_value : (Option ℕ → ℕ → Reader) → Option ℕ → ℕ → ℕ → Tag → Option ℕ → Reader
constructed_value read behind end place tag (Some n) rest = definite_value read end tag n rest
constructed_value read behind end place tag None rest = indefinite_value read behind end place tag rest

abbrev pub either : Bool → Reader → Reader → Reader
either true inside plain = inside
either false inside plain = plain

abbrev pub placed : {T : Type 0} → ℕ → List ℕ → (Front → Result T Fault) → Result Front BerKind → Result T Fault
placed end octets next (Ok front) = next front
placed end octets next (Err kind) = Err (place_of kind octets end, kind)

-- the value at the front of octets that stand before the place `end`, with at most so many constructed values inside
-- one another, and the octets behind it; or the first fault
abbrev pub reading : ℕ → Option ℕ → ℕ → Reader
reading zero behind end octets =
    placed end octets (λ front. primitive_value end front.tag front.extent front.rest) (front_of true behind octets)
reading (suc depth) behind end octets =
    placed end octets
    (λ front.
    either front.constructed
    (constructed_value (reading depth) behind end (end - length octets) front.tag front.extent)
    (primitive_value end front.tag front.extent) front.rest)
    (front_of false behind octets)

abbrev pub found_in : {T E : Type 0} → Result T E → Option T
found_in (Ok x) = Some x
found_in (Err e) = None

-- the value at the front of the bytes, and the octets behind it
abbrev pub tree_at : ℕ → List ℕ → Option (TreeValue × List ℕ)
tree_at depth bytes = found_in (reading depth None (length bytes) bytes)

-- all of the octets, where nothing stands behind the value
abbrev pub alone : TreeValue × List ℕ → Option TreeValue
alone (tree, []) = Some tree
alone (tree, octet ∷ octets) = None

-- the tree that the octets spell
abbrev pub tree_in : List ℕ → Option TreeValue
tree_in bytes = option_and_then alone (tree_at most_depth bytes)
