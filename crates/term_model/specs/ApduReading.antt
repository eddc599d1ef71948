-- The APDU of remote operations that a tree is: X.229, section 9. The relation is in Apdu.
use Rattle.std.specs.Prelude.{ℕ, ℤ, [], ◌∷◌, Bool, false, ◌==◌, ◌&&◌, nat_le, nat_lt, Option, None, Some}
use Rattle.std.specs.Prelude.{option_map, option_and_then, if◌then◌else◌}
use Rattle.term_values.specs.LeafReading.{no_trees}
use Rattle.term_values.specs.Octets.{integer_in}
use Rattle.term_values.specs.Tag.{context, is_same_tag, universal}
use Rattle.term_values.specs.Tree.{TreeValue, TreeValues}
use Rattle.term_values.specs.Tree.TreeValue.{Primitive, Constructed}
use Rattle.term_values.specs.Tree.TreeValues.{Nothing, Then}
use Rattle.term_values.specs.TreeTags.{tag_of}
use Rattle.term_values.specs.declared.tag.Tag.{Tag}
use Rattle.term_model.specs.Parts.{integer_under, two, two_under}
use Rattle.term_model.specs.RemoteOperation.{is_within_32_bits}
use Rattle.term_model.specs.declared.apdu.Apdu.{Apdu}
use Rattle.term_model.specs.declared.apdu.Apdu.TheVariants as apdus

-- a number of 32 bits
abbrev pub within_32_bits : ℤ → Option ℤ
within_32_bits n = if is_within_32_bits n then Some n else None

abbrev pub id_under : Tag → TreeValue → Option ℤ
id_under tag tree = option_and_then within_32_bits (integer_under tag tree)

-- the first value, and what follows it
abbrev pub first_by : {A : Type 0} → (TreeValue → Option A) → TreeValues → Option (A × TreeValues)
first_by read Nothing = None
first_by read (Then x xs) = option_map (λ a. (a, xs)) (read x)

-- a linked id, where one comes first, and what follows it
abbrev pub linked_first : TreeValues → Option (Option ℤ × TreeValues)
linked_first Nothing = Some (None, Nothing)
linked_first (Then x xs) =
    if is_same_tag (tag_of x) (context 0) then option_map (λ n. (Some n, xs)) (id_under (context 0) x)
    else Some (None, Then x xs)

-- at most one value
abbrev pub at_most_one : TreeValues → Option (Option TreeValue)
at_most_one Nothing = Some None
at_most_one (Then x xs) = if no_trees xs then Some (Some x) else None

abbrev pub invoke_operation : ℤ → Option ℤ → ℤ → TreeValues → Option Apdu
invoke_operation id linked op rest = option_map (λ argument. apdus.Invoke id linked op argument) (at_most_one rest)

abbrev pub invoke_linked : ℤ → Option ℤ → TreeValues → Option Apdu
invoke_linked id linked rest =
    option_and_then (λ (f : ℤ × TreeValues). invoke_operation id linked f.0 f.1)
    (first_by (integer_under (universal 2)) rest)

abbrev pub invoke_id : ℤ → TreeValues → Option Apdu
invoke_id id rest = option_and_then (λ (f : Option ℤ × TreeValues). invoke_linked id f.0 f.1) (linked_first rest)

-- the fields of an Invoke
abbrev pub invoke_in : TreeValues → Option Apdu
invoke_in trees =
    option_and_then (λ (f : ℤ × TreeValues). invoke_id f.0 f.1) (first_by (id_under (universal 2)) trees)

-- the operation and the value of a result
abbrev pub result_parts : ℤ → TreeValue × TreeValue → Option Apdu
result_parts id parts =
    option_map (λ op. apdus.Result id (Some op) (Some parts.1)) (integer_under (universal 2) parts.0)

abbrev pub result_body : ℤ → Option TreeValue → Option Apdu
result_body id None = Some (apdus.Result id None None)
result_body id (Some body) = option_and_then (result_parts id) (two_under (universal 16) body)

abbrev pub result_id : ℤ → TreeValues → Option Apdu
result_id id rest = option_and_then (result_body id) (at_most_one rest)

abbrev pub result_in : TreeValues → Option Apdu
result_in trees =
    option_and_then (λ (f : ℤ × TreeValues). result_id f.0 f.1) (first_by (id_under (universal 2)) trees)

abbrev pub error_number : ℤ → ℤ → TreeValues → Option Apdu
error_number id error rest = option_map (λ parameter. apdus.Error id error parameter) (at_most_one rest)

abbrev pub error_id : ℤ → TreeValues → Option Apdu
error_id id rest =
    option_and_then (λ (f : ℤ × TreeValues). error_number id f.0 f.1) (first_by (integer_under (universal 2)) rest)

abbrev pub error_in : TreeValues → Option Apdu
error_in trees =
    option_and_then (λ (f : ℤ × TreeValues). error_id f.0 f.1) (first_by (id_under (universal 2)) trees)

-- nothing, where the value is NULL
abbrev pub null_in : TreeValue → Option (Option ℤ)
null_in (Primitive tag []) = Some None
null_in (Primitive tag (octet ∷ octets)) = None
null_in (Constructed tag inside) = None

-- the invoke id of what is rejected, which is NULL where none is known
abbrev pub rejected_in : TreeValue → Option (Option ℤ)
rejected_in tree =
    if is_same_tag (tag_of tree) (universal 5) then null_in tree
    else option_map (λ n. Some n) (id_under (universal 2) tree)

abbrev pub is_class : Tag → Bool
is_class tag = tag.class == 2 && nat_lt tag.number 4

-- the class of a problem and its number
abbrev pub problem_in : TreeValue → Option (ℕ × ℤ)
problem_in (Primitive tag contents) =
    if is_class tag then option_map (λ n. (tag.number, n)) (integer_in contents) else None
problem_in (Constructed tag inside) = None

abbrev pub reject_parts : TreeValue × TreeValue → Option Apdu
reject_parts parts =
    option_and_then (λ id. option_map (λ (f : ℕ × ℤ). apdus.Reject id f.0 f.1) (problem_in parts.1))
    (rejected_in parts.0)

abbrev pub reject_in : TreeValues → Option Apdu
reject_in trees = option_and_then reject_parts (two trees)

-- the tag is that of an APDU
abbrev pub is_apdu_tag : Tag → Bool
is_apdu_tag tag = tag.class == 2 && (nat_le 1 tag.number && nat_le tag.number 4)

abbrev pub is_recognised : TreeValue → Bool
is_recognised (Primitive tag contents) = false
is_recognised (Constructed tag inside) = is_apdu_tag tag

abbrev pub fields_in : Tag → TreeValues → Option Apdu
fields_in tag inside =
    if is_same_tag tag (context 1) then invoke_in inside else (if is_same_tag tag (context 2) then result_in inside
    else (if is_same_tag tag (context 3) then error_in inside else (if is_same_tag tag (context 4) then reject_in inside
    else None)))

-- the APDU that a tree is
abbrev pub apdu_of : TreeValue → Option Apdu
apdu_of (Primitive tag contents) = None
apdu_of (Constructed tag inside) = fields_in tag inside
