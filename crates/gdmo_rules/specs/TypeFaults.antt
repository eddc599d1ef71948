-- TypeFaults: what a step of a rule may not say of types: ADD of what isn't INTEGER, and what is set or replied of
-- another type than it should be (docs/PROFILE.md, sections 9 and 12).
use Rattle.std.specs.Prelude.{Option, None, Some}
use Rattle.token_grammar.specs.declared.token.Token.{Token}
use Rattle.token_grammar.specs.declared.qualified_name.QualifiedName.{QualifiedName}
use Rattle.key_numbers.specs.NumberedLists.{Row}
use Rattle.gdmo_names.specs.AttributeSyntaxes.{HasUnknownSyntax, IsWholeNumber}
use Rattle.gdmo_names.specs.PartTerms.{Placed, PartTerms, body_of}
use Rattle.gdmo_names.specs.RuleFaults.{AreOneStatedType, IsOfStatedType}
use Rattle.gdmo_names.specs.RuleWords.{IsKnownType, RepliesNumber, information_of, reply_of}
use Rattle.gdmo_types.specs.ComparedTypes.{TellsStatedType}
use Rattle.gdmo_rules.specs.declared.type_faults.ActionTypes.{ActionTypes}

-- the syntax of an attribute is known, and isn't INTEGER
abbrev pub IsNoInteger : PartTerms → Placed → Type 0
IsNoInteger parts attribute = (¬ HasUnknownSyntax parts attribute) × (¬ IsWholeNumber parts attribute)

-- its syntax and the type that is stated are known, and it isn't of that type
abbrev pub IsOfOtherType : PartTerms → Placed → Option QualifiedName → Type 0
IsOfOtherType parts attribute stated = (¬ HasUnknownSyntax parts attribute) × IsKnownType parts stated
    × (¬ IsOfStatedType parts attribute stated)

-- the types of an action's information and reply are known, and aren't one
abbrev pub IsOtherReply : PartTerms → Placed → Type 0
IsOtherReply parts action = IsKnownType parts (information_of (body_of action.template))
    × IsKnownType parts (reply_of (body_of action.template))
    × (¬ AreOneStatedType parts (information_of (body_of action.template)) (reply_of (body_of action.template)))

-- the types of an action
pub record TellsTypes (parts : PartTerms) (row : Row) (action : Placed) (types : ActionTypes) : Type 0 where
  pub information : TellsStatedType parts row (information_of (body_of action.template)) types.information
  pub reply : TellsStatedType parts row (reply_of (body_of action.template)) types.reply

abbrev pub TellsAction : PartTerms → Row → Placed → Option ActionTypes → Type 0
TellsAction parts row action None = ⊥
TellsAction parts row action (Some types) = TellsTypes parts row action types

-- the type of an action's reply is known, and has no number of this name
abbrev pub RepliesNoNumber : PartTerms → Placed → Token → Type 0
RepliesNoNumber parts action word =
    IsKnownType parts (reply_of (body_of action.template)) × (¬ RepliesNumber parts action word)
