-- Object identifiers and their contents octets: X.660, clause 7; X.690, section 8.19.
use Rattle.std.specs.Cmp.Lexicographic.{pointwise}
use Rattle.std.specs.List.{list_all}
use Rattle.std.specs.Prelude.{ℕ, zero, suc, ◌-◌, Option, None, Some, ◌+◌, ◌*◌, ◌/◌, ◌%◌, ◌^◌, List, [], ◌∷◌, ◌++◌, Bool}
use Rattle.std.specs.Prelude.{false, ◌&&◌, ◌||◌, ◌==◌, nat_lt, nat_le, length, flat_map, if◌then◌else◌}

-- the first two arcs of an identifier
abbrev pub begins : ℕ → ℕ → Bool
begins first second = nat_lt first 2 && nat_lt second 40 || first == 2 && nat_le second 4294967215

-- these arcs are an identifier
abbrev pub is_oid : List ℕ → Bool
is_oid [] = false
is_oid (first ∷ []) = false
is_oid (first ∷ second ∷ others) = nat_le (length others) 62 && begins first second

-- the last seven bits of a number, and before them that many groups of seven, each with the bit that says that more
-- follow
abbrev pub groups : ℕ → ℕ → List ℕ
groups zero n = n % 128 ∷ []
groups (suc more) n = (128 + (n / 128 ^ (more + 1)) % 128) ∷ groups more n

-- how many groups stand before the last one, as few as hold the number, which is below 2 ^ 32
abbrev pub groups_before : ℕ → ℕ
groups_before n =
    if nat_lt n 128 then 0
    else (if nat_lt n (128 ^ 2) then 1 else (if nat_lt n (128 ^ 3) then 2 else (if nat_lt n (128 ^ 4) then 3 else 4)))

-- a subidentifier: X.690, section 8.19.2
unfoldable pub subidentifier : ℕ → List ℕ
subidentifier n = groups (groups_before n) n

-- the contents octets: X.690, section 8.19.3 and 8.19.4
abbrev pub oid_contents : List ℕ → List ℕ
oid_contents [] = []
oid_contents (first ∷ []) = []
oid_contents (first ∷ second ∷ others) = subidentifier (first * 40 + second) ++ flat_map subidentifier others

-- the numbers that groups of seven bits stand for, where groups before them have given a part of the first one
abbrev pub numbers_in : ℕ → List ℕ → List ℕ
numbers_in begun [] = []
numbers_in begun (octet ∷ others) =
    let n = begun * 128 + octet % 128 in
    if nat_lt octet 128 then n ∷ numbers_in 0 others else numbers_in n others

-- the arcs whose first two the first subidentifier gives
abbrev pub arcs_of : List ℕ → List ℕ
arcs_of [] = []
arcs_of (n ∷ others) = if nat_lt n 40 then 0 ∷ n ∷ others
    else (if nat_lt n 80 then 1 ∷ (n - 40) ∷ others else 2 ∷ (n - 80) ∷ others)

abbrev pub is_arc : ℕ → Bool
is_arc arc = nat_lt arc (2 ^ 32)

-- the identifier whose contents octets these are
unfoldable pub oid_in : List ℕ → Option (List ℕ)
oid_in contents =
    let arcs = arcs_of (numbers_in 0 contents) in
    if is_oid arcs && (list_all is_arc arcs && pointwise ◌==◌ (oid_contents arcs) contents) then Some arcs else None
