-- Which schemas are whole: X.722, section 8, with the conditions of docs/PROFILE.md, sections 2, 3 and 9. What the
-- compiler gives is whole.
use Rattle.std.specs.Prelude.{◌≡◌, ◌≢◌, ◌<◌, ◌⊎◌, ◌++◌, ℕ, List, [], ◌∷◌, true, Option, Some, All, AllPairs, Contains}
use Rattle.std.specs.Prelude.{IfSome, find, length, map}
use Rattle.term_values.specs.Fits.{Fits}
use Rattle.term_values.specs.MatchingKinds.{beneath_tags}
use Rattle.term_values.specs.Soundness.{IsSound}
use Rattle.term_values.specs.Syntaxes.{Bounds, Named, TypeSyntax}
use Rattle.term_values.specs.Syntaxes.TypeSyntax.{Integer}
use Rattle.term_values.specs.Typed.{TypedValue}
use Rattle.term_values.specs.Written.{der}
use Rattle.term_model.specs.declared.actions.ActRec.{ActRec}
use Rattle.term_model.specs.declared.actions.NoteRec.{NoteRec}
use Rattle.term_model.specs.declared.name.Rdn.{Rdn}
use Rattle.term_model.specs.declared.name_binding.BindRec.{BindRec}
use Rattle.term_model.specs.declared.name_binding.BoundClass.{BoundClass}
use Rattle.term_model.specs.declared.object.Attribute.{Attribute}
use Rattle.term_model.specs.declared.rule.RuleRec.{RuleRec}
use Rattle.term_model.specs.declared.rule.RuleStep.{RuleStep}
use Rattle.term_model.specs.declared.rule.RuleStep.TheVariants as steps
use Rattle.term_model.specs.declared.schema.AttrRec.{AttrRec}
use Rattle.term_model.specs.declared.schema.ClassRec.{ClassRec}
use Rattle.term_model.specs.declared.schema.GroupRec.{GroupRec}
use Rattle.term_model.specs.declared.schema.InstRec.{InstRec}
use Rattle.term_model.specs.declared.schema.Set.{Set}
use Rattle.term_model.specs.AlikeSyntaxes.{AreAlike}
use Rattle.term_model.specs.Creating.{last_of}
use Rattle.term_model.specs.Inheritance.{Derives, HasAttribute, IsAbove}
use Rattle.term_model.specs.WholeRecords.{IsAttribute, IsClass, IsValueOf, IsWholeAction}
use Rattle.term_model.specs.WholeRecords.{IsWholeBinding, IsWholeClass, IsWholeNotification}

-- the identifiers and the labels of all templates but packages, which stand in the records of classes
abbrev pub identifiers_of : Set → List (List ℕ)
identifiers_of schema =
    map (λ (r : ClassRec). r.id) schema.classes ++ map (λ (r : AttrRec). r.id) schema.attributes
    ++ map (λ (r : GroupRec). r.id) schema.groups ++ map (λ (r : BindRec). r.id) schema.bindings
    ++ map (λ (r : ActRec). r.id) schema.actions ++ map (λ (r : NoteRec). r.id) schema.notifications

abbrev pub labels_of : Set → List (List ℕ)
labels_of schema =
    map (λ (r : ClassRec). r.label) schema.classes ++ map (λ (r : AttrRec). r.label) schema.attributes
    ++ map (λ (r : GroupRec). r.label) schema.groups ++ map (λ (r : BindRec). r.label) schema.bindings
    ++ map (λ (r : ActRec). r.label) schema.actions ++ map (λ (r : NoteRec). r.label) schema.notifications

abbrev pub AreOnce : List (List ℕ) → Type 0
AreOnce = AllPairs ◌≢◌

-- The classes stand in an order in which each is behind those from which it derives: there are as many places as
-- classes. So no class derives from itself, directly or not.
abbrev pub AreOrdered : Set → Type 0
AreOrdered schema =
    (place : List ℕ → ℕ) × ((class : List ℕ) → IsClass schema class → place class < length schema.classes)
    × ((class above : List ℕ) → Derives schema class above → place above < place class)

-- the syntax of an attribute
abbrev pub HasSyntax : Set → List ℕ → TypeSyntax → Type 0
HasSyntax schema attribute syntax =
    (template : AttrRec) × Contains schema.attributes template × (template.id ≡ attribute) × (template.syntax ≡ syntax)

-- objects of a class can be named by the attribute: by a binding, or as the root
abbrev pub NamesClass : BoundClass → Set → List ℕ → Type 0
NamesClass bound schema class =
    (bound.class ≡ class) ⊎ ((bound.subclasses ≡ true) × IsAbove schema class bound.class)

-- the first instance behind ROOT, whose name is that of the system; a second one is refused at the opening
abbrev pub first_root : List InstRec → Option InstRec
first_root instances = find (λ (instance : InstRec). instance.root) instances

abbrev pub IsRootPart : List Rdn → List ℕ → Type 0
IsRootPart [] attribute = ⊥
IsRootPart (first ∷ rest) attribute = (last_of first rest).attribute ≡ attribute

pub data CanName (schema : Set) (attribute : List ℕ) (class : List ℕ) : Type 0 where
  ByBinding : (binding : BindRec) → Contains schema.bindings binding → binding.attribute ≡ attribute
      → NamesClass binding.subordinate schema class → CanName schema attribute class
  AsRoot : (instance : InstRec) → first_root schema.instances ≡ Some instance → instance.class ≡ class
      → IsRootPart schema.system attribute → CanName schema attribute class

-- A rule may name an attribute that a mandatory package of its class has, and by which no object of the class, or of
-- one that derives from it, can be named.
pub record IsOfRule (schema : Set) (class attribute : List ℕ) : Type 0 where
  pub has : HasAttribute schema class [] attribute
  pub plain : (below : List ℕ) → IsAbove schema below class → CanName schema attribute below → ⊥

-- the information or the reply of the action has the syntax of the attribute, but for the values of DEFAULTs
abbrev pub IsTyped : Set → Option TypeSyntax → List ℕ → Type 0
IsTyped schema type attribute = (syntax : TypeSyntax) × ((own : TypeSyntax) × (type ≡ Some syntax)
    × HasSyntax schema attribute own × AreAlike syntax own)

abbrev pub FitsType : Option TypeSyntax → TypedValue → Type 0
FitsType type value = (syntax : TypeSyntax) × (type ≡ Some syntax) × Fits syntax value

abbrev pub IsWholeNumber : TypeSyntax → Type 0
IsWholeNumber syntax = (names : Named) × ((ranges : Bounds) × (beneath_tags syntax ≡ Integer names ranges))

abbrev pub IsWholeStep : Set → RuleRec → ActRec → RuleStep → Type 0
IsWholeStep schema rule action (steps.SetArgument attribute) =
    IsOfRule schema rule.class attribute × IsTyped schema action.information attribute
IsWholeStep schema rule action (steps.SetValue attribute value) =
    IsOfRule schema rule.class attribute × IsValueOf schema attribute value
IsWholeStep schema rule action (steps.Add number attribute) =
    IsOfRule schema rule.class attribute
    × ((syntax : TypeSyntax) × HasSyntax schema attribute syntax × IsWholeNumber syntax)
IsWholeStep schema rule action (steps.Emit id information) =
    (notification : NoteRec) × Contains schema.notifications notification × (notification.id ≡ id)
    × IfSome information (FitsType notification.information)
IsWholeStep schema rule action steps.ReplyArgument =
    (syntax : TypeSyntax) × ((other : TypeSyntax) × (action.information ≡ Some syntax)
    × (action.reply ≡ Some other) × AreAlike syntax other)
IsWholeStep schema rule action (steps.ReplyAttribute attribute) =
    IsOfRule schema rule.class attribute × IsTyped schema action.reply attribute
IsWholeStep schema rule action (steps.ReplyValue value) = FitsType action.reply value

pub record IsWholeRule (schema : Set) (rule : RuleRec) : Type 0 where
  pub class : IsClass schema rule.class
  pub action : ActRec
  pub known : Contains schema.actions action
  pub named : action.id ≡ rule.action
  pub steps : All (IsWholeStep schema rule action) rule.steps

abbrev pub AreApart : RuleRec → RuleRec → Type 0
AreApart one other = (one.class ≢ other.class) ⊎ (one.action ≢ other.action)

-- a part of a name: an attribute with the written encoding of one of its values
abbrev pub IsWholePart : Set → Rdn → Type 0
IsWholePart schema part = (value : TypedValue) × ((template : AttrRec) × Contains schema.attributes template
    × (template.id ≡ part.attribute) × Fits template.syntax value × (part.value ≡ der template.syntax value))

-- The packages that an instance chooses have a record only where some class has them; whether its own class has them is
-- judged at the opening.
pub record IsWholeInstance (schema : Set) (instance : InstRec) : Type 0 where
  pub class : IsClass schema instance.class
  pub name : All (IsWholePart schema) instance.name
  pub given : All (λ (held : Attribute). IsValueOf schema held.id held.value) instance.given

pub record IsWhole (schema : Set) : Type 0 where
  pub identifiers : AreOnce (identifiers_of schema)
  pub labels : AreOnce (labels_of schema)
  pub classes : All (IsWholeClass schema) schema.classes
  pub ordered : AreOrdered schema
  pub attributes : All (λ (template : AttrRec). IsSound template.syntax) schema.attributes
  pub groups : All (λ (group : GroupRec). All (IsAttribute schema) group.members) schema.groups
  pub bindings : All (IsWholeBinding schema) schema.bindings
  pub actions : All IsWholeAction schema.actions
  pub notifications : All (IsWholeNotification schema) schema.notifications
  pub rules : All (IsWholeRule schema) schema.rules
  pub apart : AllPairs AreApart schema.rules
  pub instances : All (IsWholeInstance schema) schema.instances
  pub system : All (IsWholePart schema) schema.system
