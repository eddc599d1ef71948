-- PartLaws: parts of values whose copies say the same (X.680, section 17.7).
use Rattle.std.specs.Prelude.{◌≡◌, ◌<◌, ◌≤◌, ℕ, ◌+◌, List, [], ◌∷◌, ◌++◌, get_or, length, map, refl}
use Rattle.std.proofs.Common.{ap, sym, take, ◌∙◌}
use Rattle.std.proofs.lemmas.List.{map-append, take_all, take_more}
use Rattle.std.specs.declared.alloc.Global.{Global}
use Rattle.std.specs.declared.vec.Vec.{Vec}
use Rattle.token_grammar.specs.Form.{Tree, Bare, Pair, First, Second, Empty, After}
use Rattle.token_grammar.specs.Parts.{list_tree}
use Rattle.asn1_values_syntax.specs.declared.value.BracesText.TheVariants.{Parts}
use Rattle.asn1_values_syntax.specs.declared.value.ValuePart.{ValuePart}
use Rattle.asn1_values_syntax.specs.ValueTrees.{content_tree, part_tree}
use Rattle.asn1_values_syntax.proofs.Rows.{parts_content}

-- a list says what the trees of its parts say
by_trees : (before : Tree) (xs : List ValuePart) →
    list_tree part_tree before xs ≡ list_tree (λ t. t) before (map part_tree xs)
by_trees before [] = refl
by_trees before (x ∷ xs) = by_trees (After before (part_tree x)) xs

-- one copy more
pub copied_more : (xs copies after : List ValuePart) (i : ℕ) (x copy : ValuePart) → i < length xs → x ≡ get_or xs i x →
    map part_tree copies ≡ map part_tree (take i xs) → part_tree copy ≡ part_tree x → after ≡ copies ++ copy ∷ [] →
    map part_tree after ≡ map part_tree (take (i + 1) xs)
copied_more xs copies after i x copy within at so_far same pushed =
    ap (map part_tree) pushed ∙ map-append part_tree copies (copy ∷ []) ∙
    ap (λ ts. ts ++ part_tree copy ∷ []) so_far ∙
    ap (λ t. map part_tree (take i xs) ++ t ∷ []) (same ∙ ap part_tree at) ∙
    sym (ap (map part_tree) (take_more xs i x within) ∙ map-append part_tree (take i xs) (get_or xs i x ∷ []))

pub parts_copied : (xs copies : Vec ValuePart Global) (i : ℕ) → length xs.items ≤ i →
    map part_tree copies.items ≡ map part_tree (take i xs.items) → content_tree (Parts copies) ≡ content_tree (Parts xs)
parts_copied xs copies i past same = parts_content copies ∙
    ap (λ (t : Tree). Second (First (Pair t Bare))) (by_trees Empty copies.items ∙
    ap (list_tree (λ t. t) Empty) (same ∙ ap (map part_tree) (take_all i xs.items past)) ∙
    sym (by_trees Empty xs.items)) ∙ sym (parts_content xs)
