-- Which request the argument of m-Create denotes under a schema: X.711, section 7.4. The function that computes is
-- create_in of RequestReading.
use Rattle.std.specs.Prelude.{◌≡◌, pos, List, [], ◌∷◌, Option, None, Some}
use Rattle.term_values.specs.Tag.{context, universal}
use Rattle.term_values.specs.Tree.{TreeValue, TreeValues}
use Rattle.term_values.specs.Tree.TreeValue.{Constructed}
use Rattle.term_values.specs.Tree.TreeValues.{Nothing, Then}
use Rattle.typed_laws.specs.TreeOctets.{HasOctets}
use Rattle.filter_laws.specs.DenotingLaws.{AreClear}
use Rattle.term_model.specs.declared.filter_item.Given.{Given}
use Rattle.term_model.specs.declared.request.IdRef.{IdRef}
use Rattle.term_model.specs.declared.request.Instance.{Instance}
use Rattle.term_model.specs.declared.request.Place.{Place}
use Rattle.term_model.specs.declared.request.Place.TheVariants as places
use Rattle.term_model.specs.declared.request.Request.{Request}
use Rattle.term_model.specs.declared.request.Request.TheVariants as requests
use Rattle.term_model.specs.declared.schema.AttrRec.{AttrRec}
use Rattle.term_model.specs.declared.schema.Set.{Set}
use Rattle.term_model.specs.Assertions.{IsIdRef}
use Rattle.term_model.specs.FilterDenoting.{DenoteGiven}
use Rattle.term_model.specs.RequestReading.{request_in}
use Rattle.request_laws.specs.RequestDenoting.{IsAccess, IsInstance, before}

-- where the object is to be created: the instance itself, or superiorObjectInstance [8] EXPLICIT
abbrev pub IsPlace : Set → Option TreeValue → Place → Type 0
IsPlace set None place = place ≡ places.Free
IsPlace set (Some x) (places.At instance) = IsInstance set x instance
IsPlace set (Some x) (places.Below instance) =
    (y : TreeValue) × (x ≡ Constructed (context 8) (Then y Nothing)) × IsInstance set y instance
IsPlace set (Some x) places.Free = ⊥

-- referenceObjectInstance [6] EXPLICIT, which may be left out
abbrev pub IsReference : Set → Option TreeValue → Option Instance → Type 0
IsReference set None reference = reference ≡ None
IsReference set (Some x) reference =
    (y : TreeValue) × (found : Instance) × (x ≡ Constructed (context 6) (Then y Nothing)) × IsInstance set y found
    × (reference ≡ Some found)

-- the attributes in the order in which they came
abbrev pub AreGiven : List AttrRec → TreeValues → List Given → Type 0
AreGiven records trees [] = trees ≡ Nothing
AreGiven records trees (given ∷ others) =
    (inside rest : TreeValues) × (trees ≡ Then (Constructed (universal 16) inside) rest)
    × DenoteGiven records inside given × AreGiven records rest others

-- attributeList [7], none where it is left out
abbrev pub AreAttributes : List AttrRec → Option TreeValue → List Given → Type 0
AreAttributes records None given = given ≡ []
AreAttributes records (Some x) given =
    (inside : TreeValues) × (x ≡ Constructed (context 7) inside) × AreGiven records inside given

-- the argument of m-Create denotes the request
abbrev pub DenotesCreate : Set → TreeValue → Request → Type 0
DenotesCreate set tree request =
    (class : TreeValue) × (at access other list : Option TreeValue) × (of_class : IdRef) × (place : Place)
    × (reference : Option Instance) × (given : List Given)
    × (tree ≡ Constructed (universal 16)
    (Then class (before at (before access (before other (before list Nothing))))))
    × IsIdRef 0 1 class of_class × IsPlace set at place × IsAccess access × IsReference set other reference
    × AreAttributes set.attributes list given × (request ≡ requests.Create of_class place reference given)

-- the request that is read of the argument of m-Create is one that the tree denotes
abbrev pub CreateIsDenoted : Type 0
CreateIsDenoted = (set : Set) (tree : TreeValue) (request : Request) → AreClear set.attributes → HasOctets tree →
    request_in set (pos 8) tree ≡ Some request → DenotesCreate set tree request
