-- Which octets spell a tree: X.690, sections 8.1.2 to 8.1.5, with tag numbers and lengths of 32 bits.
use Rattle.std.specs.Prelude.{◌≡◌, ◌⊎◌, ℕ, zero, suc, ◌+◌, ◌*◌, ◌%◌, ◌^◌, ◌<◌, ◌≤◌, List, [], ◌∷◌, ◌++◌, Bool, true}
use Rattle.std.specs.Prelude.{false, length, Option, Some, None}
use Rattle.term_values.specs.declared.tag.Tag.{Tag}
use Rattle.term_values.specs.Der.{leading_bits}
use Rattle.term_values.specs.Octets.{number}
use Rattle.term_values.specs.Tree.{TreeValue, TreeValues}
use Rattle.term_values.specs.Tree.TreeValue.{Primitive, Constructed}
use Rattle.term_values.specs.Tree.TreeValues.{Nothing, Then}

-- the most constructed values inside one another, the outermost counted: docs/PROFILE.md, section 3
abbrev pub most_depth : ℕ
most_depth = 32

-- An octet of a tag's number in the high form which says that further ones follow, where those before it give `begun`
-- so far. It has bit 8, the first one has a further bit, and what was read so far has 32 bits: X.690, section
-- 8.1.2.4.2.
pub record IsContinued (begun octet : ℕ) : Type 0 where
  pub more : 128 ≤ octet
  pub needed : 128 < begun + octet
  pub small : begun * 128 + octet % 128 < 2 ^ 32

-- octets after which further ones follow, and the number that they give so far, seven bits each, behind those that
-- gave `begun`
abbrev pub Continues : ℕ → List ℕ → ℕ → Type 0
Continues begun [] found = begun ≡ found
Continues begun (octet ∷ octets) found = IsContinued begun octet × Continues (begun * 128 + octet % 128) octets found

-- the further octets of a tag in the high form, whose number doesn't fit the low one: X.690, sections 8.1.2.2 and
-- 8.1.2.4
pub record IsHighNumber (found : ℕ) (octets : List ℕ) : Type 0 where
  pub front : List ℕ
  pub begun : ℕ
  pub last : ℕ
  pub whole : octets ≡ front ++ last ∷ []
  pub continues : Continues 0 front begun
  pub ended : last < 128
  pub number_is : found ≡ begun * 128 + last
  pub high : 31 ≤ found
  pub small : found < 2 ^ 32

-- identifier octets: class and form, and a number below 31 in the same octet, or a greater one in further octets. The
-- tag universal 0 stands for the end of contents alone: X.690, sections 8.1.2 and 8.1.5.
pub record IsIdentifier (constructed : Bool) (tag : Tag) (octets : List ℕ) : Type 0 where
  pub class : tag.class < 4
  pub used : 0 < tag.class + tag.number
  pub spelt :
      ((tag.number < 31) × (octets ≡ (leading_bits constructed tag + tag.number) ∷ []))
      ⊎ ((further : List ℕ) × IsHighNumber tag.number further
      × (octets ≡ (leading_bits constructed tag + 31) ∷ further))

-- length octets in a definite form: one octet below 128, or one that says how many octets of the length follow it
abbrev pub IsLength : List ℕ → ℕ → Type 0
IsLength [] n = ⊥
IsLength (first ∷ more) n =
    ((first < 128) × (more ≡ []) × (n ≡ first))
    ⊎ ((first ≡ 128 + length more) × (0 < length more) × (length more < 127) × (n ≡ number more) × (n < 2 ^ 32))

-- length octets in a definite form, or, of a constructed value, the one of the indefinite form: X.690, sections
-- 8.1.3.2 to 8.1.3.6
abbrev pub IsExtent : Bool → Option ℕ → List ℕ → Type 0
IsExtent constructed (Some n) size = IsLength size n
IsExtent constructed None size = (constructed ≡ true) × (size ≡ 128 ∷ [])

-- what stands behind the length octets: the contents octets, behind an indefinite length with the end of contents
-- after them
abbrev pub Encloses : Option ℕ → List ℕ → List ℕ → Type 0
Encloses (Some n) contents rest = (n ≡ length contents) × (rest ≡ contents)
Encloses None contents rest = rest ≡ contents ++ (0 ∷ 0 ∷ [])

-- octets spell a tag, a form and contents octets
pub record Parts (constructed : Bool) (tag : Tag) (contents bytes : List ℕ) : Type 0 where
  pub identifier : List ℕ
  pub size : List ℕ
  pub rest : List ℕ
  pub extent : Option ℕ
  pub is_identifier : IsIdentifier constructed tag identifier
  pub is_extent : IsExtent constructed extent size
  pub encloses : Encloses extent contents rest
  pub whole : bytes ≡ identifier ++ (size ++ rest)

abbrev mutual
  -- octets spell the tree, with at most so many constructed values inside one another
  pub Spells : ℕ → List ℕ → TreeValue → Type 0
  Spells depth bytes (Primitive tag contents) = Parts false tag contents bytes
  Spells zero bytes (Constructed tag inside) = ⊥
  Spells (suc depth) bytes (Constructed tag inside) = (contents : List ℕ) × Parts true tag contents bytes
      × SpellsAll depth contents inside

  -- octets spell the values, one after the other
  pub SpellsAll : ℕ → List ℕ → TreeValues → Type 0
  SpellsAll depth bytes Nothing = bytes ≡ []
  SpellsAll depth bytes (Then x xs) = (front back : List ℕ) × (bytes ≡ front ++ back) × Spells depth front x
      × SpellsAll depth back xs

-- octets spell the tree within the depth that is read
abbrev pub IsBer : List ℕ → TreeValue → Type 0
IsBer bytes tree = Spells most_depth bytes tree
