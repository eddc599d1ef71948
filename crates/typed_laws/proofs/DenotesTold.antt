-- The value that is read from a tree is one that the tree denotes: X.690, section 8.
use Rattle.std.proofs.Common.{◌≡◌, ◌⊎◌, Bool, true, false, cond, Option, Some, None, refl, ap, sym, ◌∙◌, subst, ℕ, suc}
use Rattle.std.proofs.Common.{zero, ◌+◌, List, [], ◌∷◌, length, map, arith, inl, inr}
use Rattle.std.specs.Prelude.{option_map, option_and_then, is_some}
use Rattle.std.proofs.lemmas.Option.{none-some, same_Some}
use Rattle.term_values.specs.Beginnings.{begins}
use Rattle.term_values.specs.Bounded.{allowed, allowed_size, is_named}
use Rattle.term_values.specs.Decoding.{denoted, picked_in, parts_in, unordered_in, members_in, rising_by, left_out}
use Rattle.term_values.specs.Decoding.{inside_of, one_in, within, sized_members, taken_out, where_taken}
use Rattle.term_values.specs.Denotes.{DenotesAs, PartsDenote, PickDenotes, PresentHolds, AbsentHolds, Holds}
use Rattle.term_values.specs.Der.{written}
use Rattle.term_values.specs.FilterTrees.{is_filter}
use Rattle.term_values.specs.Fits.{count}
use Rattle.term_values.specs.LeafReading.{truth_in, null_in, whole_in, named_in, bit_string_in, octet_string_in}
use Rattle.term_values.specs.LeafReading.{identifier_in, text_in, time_in}
use Rattle.term_values.specs.Rearranged.{IsRearrangement, IsRising}
use Rattle.term_values.specs.Syntaxes.{Bounds, TypeSyntax, TypeParts}
use Rattle.term_values.specs.Syntaxes.TypeSyntax.{Boolean, Integer, Enumerated, BitString, OctetString, NullType}
use Rattle.term_values.specs.Syntaxes.TypeSyntax.{ObjectIdentifier, TextString, GeneralizedTime, Sequence, SetType}
use Rattle.term_values.specs.Syntaxes.TypeSyntax.{SequenceOf, SetOf, Choice, Tagged, Any, Filter}
use Rattle.term_values.specs.Syntaxes.TypeParts.{NoParts, Part}
use Rattle.term_values.specs.Tree.{TreeValue, TreeValues}
use Rattle.term_values.specs.Tree.TreeValue.{Primitive, Constructed}
use Rattle.term_values.specs.Tree.TreeValues.{Nothing as NoTrees, Then as AndTrees}
use Rattle.term_values.specs.TreeTags.{tag_of, due}
use Rattle.term_values.specs.Typed.{TypedValue, TypedSlots, TypedValues, listed}
use Rattle.term_values.specs.Typed.TypedValue.{Parts, Many, Pick, Raw}
use Rattle.term_values.specs.Typed.TypedSlots.{NoSlots, Filled, Empty}
use Rattle.term_values.specs.UniversalTags.{boolean, integer, bit_string, octet_string, null, object_identifier}
use Rattle.term_values.specs.UniversalTags.{enumerated}
use Rattle.term_values.specs.UniversalTags.{sequence, set, generalized_time, text_tag}
use Rattle.term_values.specs.Written.{der}
use Rattle.term_values.specs.declared.tag.Tag.{Tag}
use Rattle.typed_laws.specs.TreeOctets.{HasOctets, HaveOctets}
use Rattle.typed_laws.proofs.Choosing.{Meets, map_some, then_some, under_parts}
use Rattle.typed_laws.proofs.LeavesTold.{where_is, truth_told, null_told, whole_told, bit_string_told}
use Rattle.typed_laws.proofs.LeavesTold.{octet_string_told, text_told, time_told, identifier_told}
use Rattle.typed_laws.proofs.ListsTold.{trees_of, trees_again, values_of, values_again, count_is, members_told}
use Rattle.typed_laws.proofs.ListsTold.{rising_rearranges, rising_rises, taken_octets, taken_rearranges}

-- the trees in a constructed value
pub inside_told : (tag : Tag) (tree : TreeValue) (inside : TreeValues) → tag_of tree ≡ tag → HasOctets tree
    → inside_of tree ≡ Some inside → Holds tag tree (trees_of inside) × HaveOctets inside
inside_told tag (Primitive own contents) inside t h e = absurd (none-some _ e)
inside_told tag (Constructed own within_it) inside t h e =
    let same = same_Some within_it inside e in
    ((λ i. Constructed (t i) ((same ∙ sym (trees_again inside)) i)), subst HaveOctets same h)

-- the one value inside an explicit tag
one_told : (value : TreeValue → Option TypedValue) (trees : TreeValues) (v : TypedValue)
    → one_in value trees ≡ Some v → (x : TreeValue) × (trees ≡ AndTrees x NoTrees) × (value x ≡ Some v)
one_told value NoTrees v e = absurd (none-some _ e)
one_told value (AndTrees x NoTrees) v e = (x, refl, e)
one_told value (AndTrees x (AndTrees y ys)) v e = absurd (none-some _ e)

explicit_told : (tag : Tag) (value : TreeValue → Option TypedValue) (tree : TreeValue) (v : TypedValue)
    → tag_of tree ≡ tag → HasOctets tree → within (one_in value) tree ≡ Some v
    → (x : TreeValue) × (tree ≡ Constructed tag (AndTrees x NoTrees)) × (value x ≡ Some v) × HasOctets x
explicit_told tag value tree v t h e =
    let i = then_some (one_in value) (inside_of tree) v e in
    let p = inside_told tag tree i.0 t h i.1 in
    let o = one_told value i.0 v i.2 in
    (o.0, p.0 ∙ ap (Constructed tag) (trees_again i.0 ∙ o.1), o.2, (subst HaveOctets o.1 p.1).0)

-- members that are so many
sized_told : (sizes : Bounds) (members : TypedValues) (v : TypedValue) → sized_members sizes members ≡ Some v
    → (allowed_size sizes (length (values_of members)) ≡ true) × (v ≡ Many (listed (values_of members)))
sized_told sizes members v e =
    let w = where_is (allowed_size sizes (count members)) (Many members) v e in
    (subst (λ n. allowed_size sizes n ≡ true) (count_is members) w.0, w.1 ∙ ap Many (sym (values_again members)))

-- a component that is left out
left_told : (optional : Bool) (default : Option TypedValue) (rest : TypedSlots → Type 0) (o : Option TypedSlots)
    (slots : TypedSlots) → ((xs : TypedSlots) → o ≡ Some xs → rest xs) → left_out optional default o ≡ Some slots
    → AbsentHolds optional default rest slots
left_told optional (Some default) rest o slots each e =
    let f = map_some (λ xs. Filled default xs) o slots e in
    subst (AbsentHolds optional (Some default) rest) f.2 (refl, each f.0 f.1)
left_told true None rest o slots each e =
    let f = map_some (λ xs. Empty xs) o slots e in
    subst (AbsentHolds true None rest) f.2 (each f.0 f.1)
left_told false None rest o slots each e = absurd (none-some _ e)

picked_either : (syntax : TypeSyntax) (rest : TypeParts) (k : ℕ) (tree : TreeValue) (v : TypedValue) (b : Bool)
    → HasOctets tree
    → ((w : TypedValue) → denoted false syntax tree ≡ Some w → DenotesAs None syntax tree w)
    → (picked_in (k + 1) rest tree ≡ Some v → (index : ℕ) × (picked : TypedValue)
    × PickDenotes rest index tree picked × (v ≡ Pick ((k + 1) + index) picked))
    → cond b (option_map (Pick k) (denoted false syntax tree)) (picked_in (k + 1) rest tree) ≡ Some v
    → (index : ℕ) × (picked : TypedValue)
    × PickDenotes (Part [] syntax false None rest) index tree picked × (v ≡ Pick (k + index) picked)
picked_either syntax rest k tree v true h here later e =
    let f = map_some (Pick k) (denoted false syntax tree) v e in
    let plain : k ≡ k + 0 = omega arith in
    (zero, f.0, here f.0 f.1, sym f.2 ∙ ap (λ n. Pick n f.0) plain)
picked_either syntax rest k tree v false h here later e =
    let r = later e in
    let plain : (k + 1) + r.0 ≡ k + suc r.0 = omega arith in
    (suc r.0, r.1, r.2, r.3 ∙ ap (λ n. Pick n r.1) plain)

parts_either : (syntax : TypeSyntax) (optional : Bool) (default : Option TypedValue) (rest : TypeParts)
    (x : TreeValue) (xs : TreeValues) (slots : TypedSlots) (b : Bool)
    → ((w : TypedValue) → denoted false syntax x ≡ Some w → DenotesAs None syntax x w)
    → ((ws : TypedSlots) → parts_in rest xs ≡ Some ws → PartsDenote rest (trees_of xs) ws)
    → ((ws : TypedSlots) → parts_in rest (AndTrees x xs) ≡ Some ws → PartsDenote rest (x ∷ trees_of xs) ws)
    → cond b (option_and_then (λ v. option_map (Filled v) (parts_in rest xs)) (denoted false syntax x))
    (left_out optional default (parts_in rest (AndTrees x xs))) ≡ Some slots
    → PresentHolds (DenotesAs None syntax) (PartsDenote rest) (x ∷ trees_of xs) slots
    ⊎ AbsentHolds optional default (PartsDenote rest (x ∷ trees_of xs)) slots
parts_either syntax optional default rest x xs slots true here later absent e =
    let f = then_some (λ v. option_map (Filled v) (parts_in rest xs)) (denoted false syntax x) slots e in
    let r = map_some (Filled f.0) (parts_in rest xs) slots f.2 in
    inl (subst (PresentHolds (DenotesAs None syntax) (PartsDenote rest) (x ∷ trees_of xs)) r.2
    (here f.0 f.1, later r.0 r.1))
parts_either syntax optional default rest x xs slots false here later absent e =
    inr (left_told optional default (PartsDenote rest (x ∷ trees_of xs)) (parts_in rest (AndTrees x xs)) slots absent e)

unordered_either : (syntax : TypeSyntax) (optional : Bool) (default : Option TypedValue) (rest : TypeParts)
    (trees : TreeValues) (slots : TypedSlots) (o : Option (TreeValue × TreeValues))
    → taken_out (begins syntax) trees ≡ o → HaveOctets trees
    → ((x : TreeValue) (w : TypedValue) → HasOctets x → denoted false syntax x ≡ Some w → DenotesAs None syntax x w)
    → ((others : TreeValues) (ws : TypedSlots) → HaveOctets others → unordered_in rest others ≡ Some ws
    → (ordered : List TreeValue) × IsRearrangement (trees_of others) ordered × PartsDenote rest ordered ws)
    → where_taken o
    (λ x others. option_and_then (λ v. option_map (Filled v) (unordered_in rest others)) (denoted false syntax x))
    (left_out optional default (unordered_in rest trees)) ≡ Some slots
    → (ordered : List TreeValue) × IsRearrangement (trees_of trees) ordered
    × (PresentHolds (DenotesAs None syntax) (PartsDenote rest) ordered slots
    ⊎ AbsentHolds optional default (PartsDenote rest ordered) slots)
unordered_either syntax optional default rest trees slots (Some taken) t h here later e =
    let o = taken_octets (begins syntax) trees taken.0 taken.1 h t in
    let f = then_some (λ v. option_map (Filled v) (unordered_in rest taken.1)) (denoted false syntax taken.0) slots e in
    let r = map_some (Filled f.0) (unordered_in rest taken.1) slots f.2 in
    let n = later taken.1 r.0 o.1 r.1 in (
      taken.0 ∷ n.0,
      taken_rearranges (begins syntax) trees taken.0 taken.1 n.0 t n.1,
      inl (subst (PresentHolds (DenotesAs None syntax) (PartsDenote rest) (taken.0 ∷ n.0)) r.2
          (here taken.0 f.0 o.0 f.1, n.2)),
    )
unordered_either syntax optional (Some default) rest trees slots None t h here later e =
    let f = map_some (λ xs. Filled default xs) (unordered_in rest trees) slots e in
    let n = later trees f.0 h f.1 in
    (n.0, n.1, inr (subst (AbsentHolds optional (Some default) (PartsDenote rest n.0)) f.2 (refl, n.2)))
unordered_either syntax true None rest trees slots None t h here later e =
    let f = map_some (λ xs. Empty xs) (unordered_in rest trees) slots e in
    let n = later trees f.0 h f.1 in
    (n.0, n.1, inr (subst (AbsentHolds true None (PartsDenote rest n.0)) f.2 n.2))
unordered_either syntax false None rest trees slots None t h here later e = absurd (none-some _ e)

mutual
  pub told : (syntax : TypeSyntax) (tag : Option Tag) (tree : TreeValue) (v : TypedValue) → Meets tag tree
      → HasOctets tree → denoted (is_some tag) syntax tree ≡ Some v → DenotesAs tag syntax tree v
  told Boolean tag tree v m h e =
      let p = under_parts tag boolean truth_in tree v m e in
      truth_told (due tag boolean) tree v p.0 p.1
  told (Integer names ranges) tag tree v m h e =
      let p = under_parts tag integer (whole_in ranges) tree v m e in
      whole_told (due tag integer) (allowed ranges) tree v h p.0 p.1
  told (Enumerated names) tag tree v m h e =
      let p = under_parts tag enumerated (named_in names) tree v m e in
      whole_told (due tag enumerated) (is_named names) tree v h p.0 p.1
  told (BitString names sizes) tag tree v m h e =
      let p = under_parts tag bit_string (bit_string_in sizes) tree v m e in
      bit_string_told (due tag bit_string) sizes tree v p.0 p.1
  told (OctetString sizes) tag tree v m h e =
      let p = under_parts tag octet_string (octet_string_in sizes) tree v m e in
      octet_string_told (due tag octet_string) sizes tree v p.0 p.1
  told NullType tag tree v m h e =
      let p = under_parts tag null null_in tree v m e in
      null_told (due tag null) tree v p.0 p.1
  told ObjectIdentifier tag tree v m h e =
      let p = under_parts tag object_identifier identifier_in tree v m e in
      identifier_told (due tag object_identifier) tree v p.0 p.1
  told (TextString charset sizes) tag tree v m h e =
      let p = under_parts tag (text_tag charset) (text_in charset sizes) tree v m e in
      text_told (due tag (text_tag charset)) charset sizes tree v p.0 p.1
  told GeneralizedTime tag tree v m h e =
      let p = under_parts tag generalized_time time_in tree v m e in
      time_told (due tag generalized_time) tree v p.0 p.1
  told (Sequence parts) tag tree v m h e =
      let p = under_parts tag sequence (within (λ inside. option_map Parts (parts_in parts inside))) tree v m e in
      let i = then_some (λ inside. option_map Parts (parts_in parts inside)) (inside_of tree) v p.1 in
      let f = map_some Parts (parts_in parts i.0) v i.2 in
      let t = inside_told (due tag sequence) tree i.0 p.0 h i.1 in
      (trees_of i.0, f.0, t.0, parts_told parts i.0 f.0 t.1 f.1, sym f.2)
  told (SetType parts) tag tree v m h e =
      let p = under_parts tag set (within (λ inside. option_map Parts (unordered_in parts inside))) tree v m e in
      let i = then_some (λ inside. option_map Parts (unordered_in parts inside)) (inside_of tree) v p.1 in
      let f = map_some Parts (unordered_in parts i.0) v i.2 in
      let t = inside_told (due tag set) tree i.0 p.0 h i.1 in
      let r = unordered_told parts i.0 f.0 t.1 f.1 in
      (trees_of i.0, r.0, f.0, t.0, r.1, r.2, sym f.2)
  told (SequenceOf member sizes) tag tree v m h e =
      let f : TreeValues → Option TypedValue = λ inside. option_and_then (sized_members sizes)
      (members_in (denoted false member) inside) in
      let p = under_parts tag sequence (within f) tree v m e in
      let i = then_some f (inside_of tree) v p.1 in
      let g = then_some (sized_members sizes) (members_in (denoted false member) i.0) v i.2 in
      let t = inside_told (due tag sequence) tree i.0 p.0 h i.1 in
      let s = sized_told sizes g.0 v g.2 in (
        trees_of i.0,
        values_of g.0,
        t.0,
        members_told (denoted false member) (DenotesAs None member) (λ x w k q. told member None x w tt k q) i.0 g.0
            t.1 g.1,
        s.0,
        s.1,
      )
  told (SetOf member sizes) tag tree v m h e =
      let f : TreeValues → Option TypedValue = λ inside. option_and_then (sized_members sizes)
      (option_map (rising_by (der member)) (members_in (denoted false member) inside)) in
      let p = under_parts tag set (within f) tree v m e in
      let i = then_some f (inside_of tree) v p.1 in
      let g = then_some (sized_members sizes) (option_map (rising_by (der member))
      (members_in (denoted false member) i.0)) v i.2 in
      let r = map_some (rising_by (der member)) (members_in (denoted false member) i.0) g.0 g.1 in
      let t = inside_told (due tag set) tree i.0 p.0 h i.1 in
      let s = sized_told sizes g.0 v g.2 in (
        trees_of i.0,
        values_of r.0,
        values_of g.0,
        t.0,
        members_told (denoted false member) (DenotesAs None member) (λ x w k q. told member None x w tt k q) i.0 r.0
            t.1 r.1,
        subst (λ ws. IsRearrangement (values_of r.0) (values_of ws)) r.2 (rising_rearranges (der member) r.0),
        subst (λ ws. IsRising (map (der member) (values_of ws))) r.2 (rising_rises (der member) r.0),
        s.0,
        s.1,
      )
  told (Choice parts) None tree v m h e =
      let p = picked_told parts zero tree v h e in
      let plain : zero + p.0 ≡ p.0 = omega arith in
      (p.0, p.1, p.2, p.3 ∙ ap (λ n. Pick n p.1) plain)
  told (Choice parts) (Some tag) tree v m h e = absurd (none-some _ e)
  told (Tagged own true of) tag tree v m h e =
      let p = under_parts tag own (within (one_in (denoted false of))) tree v m e in
      let x = explicit_told (due tag own) (denoted false of) tree v p.0 h p.1 in
      (x.0, x.1, told of None x.0 v tt x.3 x.2)
  told (Tagged own false of) tag tree v m h e =
      let p = under_parts tag own (denoted true of) tree v m e in
      told of (Some (due tag own)) tree v p.0 h p.1
  told Any None tree v m h e = sym (same_Some (Raw (written tree)) v e)
  told Any (Some tag) tree v m h e = absurd (none-some _ e)
  told Filter None tree v m h e = where_is (is_filter tree) (Raw (written tree)) v e
  told Filter (Some tag) tree v m h e = absurd (none-some _ e)

  picked_told : (parts : TypeParts) (k : ℕ) (tree : TreeValue) (v : TypedValue) → HasOctets tree
      → picked_in k parts tree ≡ Some v
      → (index : ℕ) × (picked : TypedValue) × PickDenotes parts index tree picked × (v ≡ Pick (k + index) picked)
  picked_told NoParts k tree v h e = absurd (none-some _ e)
  picked_told (Part name syntax optional default rest) k tree v h e =
      picked_either syntax rest k tree v (begins syntax (tag_of tree)) h
      (λ w q. told syntax None tree w tt h q) (λ q. picked_told rest (k + 1) tree v h q) e

  parts_told : (parts : TypeParts) (trees : TreeValues) (slots : TypedSlots) → HaveOctets trees
      → parts_in parts trees ≡ Some slots → PartsDenote parts (trees_of trees) slots
  parts_told NoParts NoTrees slots h e = (refl, sym (same_Some NoSlots slots e))
  parts_told NoParts (AndTrees x xs) slots h e = absurd (none-some _ e)
  parts_told (Part name syntax optional default rest) NoTrees slots h e =
      inr (left_told optional default (PartsDenote rest []) (parts_in rest NoTrees) slots
      (λ ws q. parts_told rest NoTrees ws tt q) e)
  parts_told (Part name syntax optional default rest) (AndTrees x xs) slots h e =
      parts_either syntax optional default rest x xs slots (begins syntax (tag_of x))
      (λ w q. told syntax None x w tt h.0 q) (λ ws q. parts_told rest xs ws h.1 q)
      (λ ws q. parts_told rest (AndTrees x xs) ws h q) e

  unordered_told : (parts : TypeParts) (trees : TreeValues) (slots : TypedSlots) → HaveOctets trees
      → unordered_in parts trees ≡ Some slots
      → (ordered : List TreeValue) × IsRearrangement (trees_of trees) ordered × PartsDenote parts ordered slots
  unordered_told NoParts NoTrees slots h e = ([], refl, (refl, sym (same_Some NoSlots slots e)))
  unordered_told NoParts (AndTrees x xs) slots h e = absurd (none-some _ e)
  unordered_told (Part name syntax optional default rest) trees slots h e =
      unordered_either syntax optional default rest trees slots (taken_out (begins syntax) trees) refl h
      (λ x w k q. told syntax None x w tt k q) (λ others ws k q. unordered_told rest others ws k q) e
