-- Which name bindings allow objects of a class below those of another: X.722, section 8.6; X.720, section 6.
use Rattle.std.specs.Prelude.{ℕ, List, [], Bool, ◌&&◌, ◌||◌, not, filter, if◌then◌else◌}
use Rattle.std.specs.List.{list_any}
use Rattle.term_model.specs.declared.creation.Outline.{Outline}
use Rattle.term_model.specs.declared.name_binding.BindRec.{BindRec}
use Rattle.term_model.specs.declared.name_binding.BoundClass.{BoundClass}
use Rattle.term_model.specs.declared.schema.Set.{Set}
use Rattle.term_model.specs.AgentWritten.{is_agent_written}
use Rattle.term_model.specs.Comparing.{is_same_oid}
use Rattle.term_model.specs.PresentPackages.{classes_above, is_among}

-- the class is the one that the binding names or, with AND SUBCLASSES, derives from it
abbrev pub is_bound_class : Set → BoundClass → List ℕ → Bool
is_bound_class schema bound class =
    is_same_oid bound.class class
    || bound.subclasses && list_any (is_same_oid bound.class) (classes_above schema.classes class)

-- the binding names objects of the class below those of the other class
abbrev pub licenses : Set → List ℕ → List ℕ → BindRec → Bool
licenses schema subordinate superior binding =
    is_bound_class schema binding.subordinate subordinate && is_bound_class schema binding.superior superior

-- such an object can be named by one of its attributes that the agent doesn't write
abbrev pub names_by : Set → Outline → List ℕ → Bool
names_by schema outline attribute =
    is_among outline.attributes attribute && not (is_agent_written schema outline.bound_log attribute)

-- the binding names objects of the class by the attribute, below those of the other class
abbrev pub binds : Set → List ℕ → List ℕ → List ℕ → BindRec → Bool
binds schema class superior attribute binding =
    is_same_oid binding.attribute attribute && licenses schema class superior binding

abbrev pub licensing : Set → List ℕ → Outline → List ℕ → List ℕ → List BindRec
licensing schema class outline superior attribute =
    if names_by schema outline attribute then filter (binds schema class superior attribute) schema.bindings else []
