-- Which object follows a name: the one with the least greater name; docs/PROFILE.md, section 4.
use Rattle.std.specs.Prelude.{◌≡◌, ◌≢◌, List, Contains, Option, find}
use Rattle.std.specs.Ordering.{is_lt}
use Rattle.std.specs.declared.cmp.Ordering.TheVariants.{Less}
use Rattle.term_model.specs.declared.name.Rdn.{Rdn}
use Rattle.term_model.specs.declared.objects.NamedObject.{NamedObject}
use Rattle.term_model.specs.NameOrder.{name_cmp}

-- by rising name, the first object whose name is greater
abbrev pub entry_after : List NamedObject → List Rdn → Option NamedObject
entry_after objects name = find (λ (entry : NamedObject). is_lt (name_cmp name entry.name)) objects

-- it is one of the objects, its name is greater, and no greater name is less than it
pub record IsLeastGreater (objects : List NamedObject) (name : List Rdn) (entry : NamedObject) : Type 0 where
  pub there : Contains objects entry
  pub greater : name_cmp name entry.name ≡ Less
  pub least : (other : NamedObject) → Contains objects other → name_cmp name other.name ≡ Less
      → name_cmp other.name entry.name ≢ Less
