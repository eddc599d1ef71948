-- AttributeLaws: an attribute has the syntax of the type that is named where its bases end (X.722, section 8.7).
use Rattle.std.proofs.lemmas.Option.{slice_get_within}
use Rattle.std.proofs.Common.{arith, ◌<◌}
use Rattle.std.proofs.Common.{◌≡◌, ◌∙◌, ℕ, zero, suc, List, [], ◌∷◌, Option, None, Some, refl, sym, ap, length}
use Rattle.std.specs.Prelude.{◌↔◌, slice_get}
use Rattle.std.proofs.Math.Path.{subst}
use Rattle.std.proofs.lemmas.List.{length-map}
use Rattle.term_values.specs.Syntaxes.{TypeSyntax}
use Rattle.asn1_names.specs.ModuleTerms.{ModuleTerm}
use Rattle.link_graphs.specs.ChainEnds.{AreEnds, EndsAt}
use Rattle.link_graphs.specs.ChainEnds.EndsAt.{itself, onward}
use Rattle.link_graphs.specs.declared.chains.Link.TheVariants.{End, Next}
use Rattle.linked_parts.specs.declared.linked.Linked.{Linked}
use Rattle.linked_parts.specs.declared.linked.LinkedAttribute.{LinkedAttribute}
use Rattle.linked_parts.specs.declared.linked.LinkedName.{LinkedName}
use Rattle.linked_parts.specs.declared.linked.LinkedSyntax.{LinkedSyntax}
use Rattle.linked_parts.specs.declared.linked.LinkedSyntax.TheVariants.{OfAttribute, OfType}
use Rattle.filled_syntaxes.specs.BadDefaults.{TellsFilled}
use Rattle.filled_syntaxes.specs.LinkedMeanings.{linked_arcs, linked_meaning}
use Rattle.filled_syntaxes.proofs.FilledLaws.{has_once}
use Rattle.class_faults.specs.AttributeSyntaxes.{AttributeHas}
use Rattle.class_faults.specs.AttributeSyntaxes.AttributeHas.{of_base, of_type}
use Rattle.class_faults.specs.StatedProperties.{TypeHas}
use Rattle.linked_types.specs.AttributeTypes.{AreAttributeTypes, TellsAttributeType, base_link, base_links}
use Rattle.linked_types.specs.AttributeTypes.{name_at, own_name, type_name}
use Rattle.linked_types.specs.PartTypes.{AreTold, TellsOptionalType}
use Rattle.linked_types.specs.TypeTables.{Grows, syntax_at, syntax_of}
use Rattle.linked_types.specs.declared.type_table.NamedType.{NamedType}
use Rattle.linked_types.specs.declared.type_table.TypeTable.{TypeTable}
use Rattle.linked_types.proofs.TableLaws.{some_is, there_once}

-- ---- the links of attributes

pub link_there : (xs : List LinkedAttribute) (k : ℕ) (x : LinkedAttribute) → slice_get xs k ≡ Some x →
    slice_get (base_links xs) k ≡ Some (base_link x.syntax)
link_there [] k x is = absurd (cc)
link_there (y ∷ ys) zero x is = ap (λ (z : LinkedAttribute). Some (base_link z.syntax)) (some_is y x is)
link_there (y ∷ ys) (suc k) x is = link_there ys k x is

-- what a link tells of the attribute at its place
pub record IsEnd (xs : List LinkedAttribute) (k : ℕ) : Type 0 where
  pub x : LinkedAttribute
  pub stands : slice_get xs k ≡ Some x
  pub name : LinkedName
  pub is : x.syntax ≡ OfType name

pub record IsNext (xs : List LinkedAttribute) (k next : ℕ) : Type 0 where
  pub x : LinkedAttribute
  pub stands : slice_get xs k ≡ Some x
  pub is : x.syntax ≡ OfAttribute next

end_syntax : (s : LinkedSyntax) → base_link s ≡ End → (name : LinkedName) × (s ≡ OfType name)
end_syntax (OfType name) e = (name, refl)
end_syntax (OfAttribute base) e = absurd (cc)

next_syntax : (s : LinkedSyntax) (next : ℕ) → base_link s ≡ Next next → s ≡ OfAttribute next
next_syntax (OfType name) next e = absurd (cc)
next_syntax (OfAttribute base) next e = ap OfAttribute (same base next e)
  where
    same : (one other : ℕ) → Next one ≡ Next other → one ≡ other
    same one other e = cc

end_there : (xs : List LinkedAttribute) (k : ℕ) → slice_get (base_links xs) k ≡ Some End → IsEnd xs k
end_there [] k is = absurd (cc)
end_there (x ∷ xs) zero is =
    let s = end_syntax x.syntax (some_is (base_link x.syntax) End is) in
    record { x = x; stands = refl; name = s.0; is = s.1 }
end_there (x ∷ xs) (suc k) is =
    let e = end_there xs k is in record { x = e.x; stands = e.stands; name = e.name; is = e.is }

next_there : (xs : List LinkedAttribute) (k next : ℕ) → slice_get (base_links xs) k ≡ Some (Next next) →
    IsNext xs k next
next_there [] k next is = absurd (cc)
next_there (x ∷ xs) zero next is =
    record { x = x; stands = refl; is = next_syntax x.syntax next (some_is (base_link x.syntax) (Next next) is) }
next_there (x ∷ xs) (suc k) next is =
    let e = next_there xs k next is in record { x = e.x; stands = e.stands; is = e.is }

-- ---- where the bases end, and the syntax of the type there

module _ (ms : List ModuleTerm) (linked : Linked) where
  xs : List LinkedAttribute
  xs = linked.attributes.items

  -- the name of the type at the end
  record EndNamed (z : ℕ) (name : LinkedName) : Type 0 where
    pub x : LinkedAttribute
    pub stands : slice_get linked.attributes.items z ≡ Some x
    pub is : x.syntax ≡ OfType name

  end_link : (k : ℕ) (x : LinkedAttribute) (name : LinkedName) → slice_get linked.attributes.items k ≡ Some x →
      x.syntax ≡ OfType name → slice_get (base_links linked.attributes.items) k ≡ Some End
  end_link k x name at is = link_there linked.attributes.items k x at ∙ ap (λ s. Some (base_link s)) is

  next_link : (k base : ℕ) (x : LinkedAttribute) → slice_get linked.attributes.items k ≡ Some x →
      x.syntax ≡ OfAttribute base → slice_get (base_links linked.attributes.items) k ≡ Some (Next base)
  next_link k base x at is = link_there linked.attributes.items k x at ∙ ap (λ s. Some (base_link s)) is

  -- an attribute with a syntax has an end
  pub ends_somewhere : {k : ℕ} {syntax : TypeSyntax} → AttributeHas ms linked k syntax →
      (z : ℕ) × EndsAt (base_links linked.attributes.items) k z
  ends_somewhere (of_type {k = k} {x = x} {name = name} at is has) = (k, itself (end_link k x name at is))
  ends_somewhere (of_base {k = k} {base = base} {x = x} at is has) =
      let further = ends_somewhere has in (further.0, onward (next_link k base x at is) further.1)

  pub end_named : {k z : ℕ} → EndsAt (base_links linked.attributes.items) k z → IsEnd linked.attributes.items z
  end_named (itself {e = e} h) = end_there linked.attributes.items e h
  end_named (onward h d) = end_named d

  -- the syntax of the type at the end is the attribute's
  pub has_from_end : {k z : ℕ} (syntax : TypeSyntax) (e : IsEnd linked.attributes.items z) →
      EndsAt (base_links linked.attributes.items) k z → TypeHas ms linked e.name syntax →
      AttributeHas ms linked k syntax
  has_from_end syntax e (itself h) has = of_type e.stands e.is has
  has_from_end syntax e (onward {e = k} {next = next} h d) has =
      let n = next_there linked.attributes.items k next h in of_base n.stands n.is (has_from_end syntax e d has)

  same_name : (one other : LinkedName) → OfType one ≡ OfType other → one ≡ other
  same_name one other e = cc

  same_base : (one other : ℕ) → OfAttribute one ≡ OfAttribute other → one ≡ other
  same_base one other e = cc

  not_both : (s : LinkedSyntax) (name : LinkedName) (base : ℕ) → s ≡ OfType name → s ≡ OfAttribute base → ⊥
  not_both s name base p q = absurd (cc)

  pub end_from_has : {k z : ℕ} {syntax : TypeSyntax} (e : IsEnd linked.attributes.items z) →
      AttributeHas ms linked k syntax → EndsAt (base_links linked.attributes.items) k z →
      TypeHas ms linked e.name syntax
  end_from_has {syntax = syntax} e (of_type {k = k} {x = x} {name = name} at is has) (itself h) =
      let same = there_once (slice_get linked.attributes.items k) x e.x at e.stands in
      let named = same_name name e.name (sym is ∙ ap (λ (y : LinkedAttribute). y.syntax) same ∙ e.is) in
      subst (λ n. TypeHas ms linked n syntax) named has
  end_from_has e (of_type {k = k} {x = x} {name = name} at is has) (onward {next = next} h d) =
      let n = next_there linked.attributes.items k next h in
      let same = there_once (slice_get linked.attributes.items k) x n.x at n.stands in
      absurd (not_both x.syntax name next is (ap (λ (y : LinkedAttribute). y.syntax) same ∙ n.is))
  end_from_has e (of_base {k = k} {base = base} {x = x} at is has) (itself h) =
      let same = there_once (slice_get linked.attributes.items k) x e.x at e.stands in
      absurd (not_both x.syntax e.name base (ap (λ (y : LinkedAttribute). y.syntax) same ∙ e.is) is)
  end_from_has {z = z} e (of_base {k = k} {base = base} {x = x} at is has) (onward {next = next} h d) =
      let n = next_there linked.attributes.items k next h in
      let same = there_once (slice_get linked.attributes.items k) x n.x at n.stands in
      let one = same_base next base (sym n.is ∙ sym (ap (λ (y : LinkedAttribute). y.syntax) same) ∙ is) in
      end_from_has e has (subst (λ b. EndsAt (base_links linked.attributes.items) b z) one d)

  -- ---- the type that is told

  pub told_filled : (name : LinkedName) (x : NamedType) →
      TellsFilled ms (linked_arcs linked) (linked_meaning ms name.meaning) x.syntax → (syntax : TypeSyntax) →
      (x.syntax ≡ Some syntax) ↔ TypeHas ms linked name syntax
  told_filled name x told syntax = by x.syntax told
    where
      by : (o : Option TypeSyntax) → TellsFilled ms (linked_arcs linked) (linked_meaning ms name.meaning) o →
          (o ≡ Some syntax) ↔ TypeHas ms linked name syntax
      by None told = (λ e. absurd (cc), λ has. absurd (told syntax has))
      by (Some s) told = (
        λ e. subst (λ t. TypeHas ms linked name t) (some_is s syntax e) told,
        λ has. ap Some (has_once ms (linked_arcs linked) (linked_meaning ms name.meaning) told has),
      )

  at_end : (table : TypeTable) (k z : ℕ) (e : IsEnd linked.attributes.items z) (place : Option ℕ) →
      EndsAt (base_links linked.attributes.items) k z → TellsOptionalType ms linked table (Some e.name) place →
      TellsAttributeType ms linked table k place
  at_end table k z e None d told = absurd told
  at_end table k z e (Some place) d told = (
    told.item,
    told.stands,
    λ syntax. let exact = told_filled e.name told.item told.told.filled syntax in (
      λ is. has_from_end syntax e d (exact.0 is),
      λ has. exact.1 (end_from_has e has d),
    ),
  )

  name_there : (z : ℕ) (e : IsEnd linked.attributes.items z) →
      name_at linked.attributes.items (Some z) ≡ Some e.name
  name_there z e = ap own_name e.stands ∙ ap (λ s. type_name s) e.is

  at_none : (table : TypeTable) (k : ℕ) (place : Option ℕ) → TellsOptionalType ms linked table None place →
      ((syntax : TypeSyntax) → ¬ AttributeHas ms linked k syntax) → TellsAttributeType ms linked table k place
  at_none table k None told no_syntax = no_syntax
  at_none table k (Some place) told no_syntax = absurd told

  pub attribute_told : (table : TypeTable) (ends : List (Option ℕ)) →
      AreEnds (base_links linked.attributes.items) ends →
      (k : ℕ) (end : Option ℕ) (place : Option ℕ) → slice_get ends k ≡ Some end →
      TellsOptionalType ms linked table (name_at linked.attributes.items end) place →
      TellsAttributeType ms linked table k place
  attribute_told table ends are k None place at told =
      at_none table k place told (λ syntax has.
      let somewhere = ends_somewhere has in
      apart somewhere.0 (there_once (slice_get ends k) None (Some somewhere.0) at (are.told k somewhere.0 somewhere.1)))
    where
      apart : (z : ℕ) → None ≡ Some z → ⊥
      apart z e = absurd (cc)
  attribute_told table ends are k (Some z) place at told =
      let d = are.leads k z at in
      let e = end_named d in
      at_end table k z e place d (subst (λ n. TellsOptionalType ms linked table n place) (name_there z e) told)

there_of : {A : Type 0} (xs : List A) (k : ℕ) (n : ℕ) → n ≡ length xs → k < n → (x : A) × (slice_get xs k ≡ Some x)
there_of [] k n is h = absurd (omega arith)
there_of (x ∷ xs) zero n is h = (x, refl)
there_of (x ∷ xs) (suc k) n is h = there_of xs k (length xs) refl (omega arith)

get_within : {A : Type 0} (xs : List A) (k : ℕ) (x : A) → slice_get xs k ≡ Some x → k < length xs
get_within xs k x is = slice_get_within xs k x is

-- the place of the type of each attribute, from those of the types where bases end
pub attributes_told : (ms : List ModuleTerm) (linked : Linked) (table : TypeTable) (ends types : List (Option ℕ)) →
    AreEnds (base_links linked.attributes.items) ends →
    AreTold (λ end place. TellsOptionalType ms linked table (name_at linked.attributes.items end) place) ends types →
    AreAttributeTypes ms linked table types
attributes_told ms linked table ends types are made = record {
  size = made.size ∙ are.size ∙ length-map linked.attributes.items (λ (x : LinkedAttribute). base_link x.syntax);
  told = λ k place at.
      let stood = there_of ends k (length ends) refl (let w = get_within types k place at in let s = made.size in
      omega arith) in
      attribute_told ms linked table ends are k stood.0 place stood.1 (made.told k stood.0 place stood.1 at);
}

pub attributes_by : (ms : List ModuleTerm) (linked : Linked) (table : TypeTable) (attributes : List LinkedAttribute)
    (ends slice types : List (Option ℕ)) → linked.attributes.items ≡ attributes → slice ≡ ends →
    AreEnds (base_links attributes) ends →
    AreTold (λ end place. TellsOptionalType ms linked table (name_at attributes end) place) slice types →
    AreAttributeTypes ms linked table types
attributes_by ms linked table attributes ends slice types same is are made =
    attributes_told ms linked table ends types (subst (λ ys. AreEnds (base_links ys) ends) (sym same) are)
    (subst (λ ys. AreTold (λ end place. TellsOptionalType ms linked table (name_at ys end) place) ends types) (sym same)
    (subst (λ zs. AreTold (λ end place. TellsOptionalType ms linked table (name_at attributes end) place) zs types) is
    made))

-- ---- a later table, and lookups

pub type_later : (ms : List ModuleTerm) (linked : Linked) {old new : TypeTable} (k : ℕ) (place : Option ℕ) →
    Grows old new → TellsAttributeType ms linked old k place → TellsAttributeType ms linked new k place
type_later ms linked k None grows h = h
type_later ms linked k (Some place) grows h = (h.0, grows.stays place h.0 h.1, h.2)

pub types_later : {ms : List ModuleTerm} {linked : Linked} {old new : TypeTable} {types : List (Option ℕ)} →
    Grows old new → AreAttributeTypes ms linked old types → AreAttributeTypes ms linked new types
types_later {ms} {linked} grows h = record {
  size = h.size;
  told = λ k place at. type_later ms linked k place grows
      (h.told k place at);
}

-- the syntax that is looked up is the attribute's
pub looked_up : (ms : List ModuleTerm) (linked : Linked) (table : TypeTable) (k : ℕ) (place : Option ℕ)
    (syntax : TypeSyntax) → TellsAttributeType ms linked table k place →
    (syntax_at table place ≡ Some syntax) ↔ AttributeHas ms linked k syntax
looked_up ms linked table k None syntax h = (λ e. absurd (cc), λ has. absurd (h syntax has))
looked_up ms linked table k (Some place) syntax h =
    let same : syntax_at table (Some place) ≡ h.0.syntax = ap syntax_of h.1 in
    let exact = h.2 syntax in
    (λ e. exact.0 (sym same ∙ e), λ has. same ∙ exact.1 has)

-- of no attribute
pub no_attribute : (ms : List ModuleTerm) (linked : Linked) (k : ℕ) (syntax : TypeSyntax) →
    slice_get linked.attributes.items k ≡ None → ¬ AttributeHas ms linked k syntax
no_attribute ms linked k syntax gone (of_type at is has) = absurd (cc)
no_attribute ms linked k syntax gone (of_base at is has) = absurd (cc)
