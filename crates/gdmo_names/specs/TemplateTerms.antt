-- TemplateTerms: templates as the definitions see them: what their texts say, without the memory of their lists
-- (X.722, sections 8.3 to 8.11; docs/PROFILE.md, section 2). What the name of a document before a label says is left
-- out: it has no part in what a label means.
use Rattle.std.specs.Prelude.{List, Bool, Option}
use Rattle.token_grammar.specs.declared.qualified_name.QualifiedName.{QualifiedName}
use Rattle.token_grammar.specs.declared.token.Token.{Token}

-- the nine kinds of templates
pub data TemplateKind : Type 0 where
  ClassKind : TemplateKind
  PackageKind : TemplateKind
  ParameterKind : TemplateKind
  BindingKind : TemplateKind
  AttributeKind : TemplateKind
  GroupKind : TemplateKind
  BehaviourKind : TemplateKind
  ActionKind : TemplateKind
  NotificationKind : TemplateKind

-- the first arc of an identifier: its number, or a name that has a value
pub data FirstTerm : Type 0 where
  ArcNumber : Token → FirstTerm
  ArcName : Token → FirstTerm

-- an object identifier: its brace, its first arc, and the numbers of the arcs behind it
pub record IdentifierTerm : Type 0 where
  pub brace : Token
  pub first : FirstTerm
  pub others : List Token

mutual
  -- what names a template: its label, or the template itself
  pub data ReferenceTerm : Type 0 where
    ByLabel : Token → ReferenceTerm
    InLine : TemplateTerm → ReferenceTerm

  pub data ReferenceTerms : Type 0 where
    NoReferences : ReferenceTerms
    Reference : ReferenceTerm → ReferenceTerms → ReferenceTerms

  -- a template: its label, the identifier under which it is registered, where it is, and its clauses
  pub data TemplateTerm : Type 0 where
    Template : Token → Option IdentifierTerm → BodyTerm → TemplateTerm

  pub data BodyTerm : Type 0 where
    -- DERIVED FROM, CHARACTERIZED BY, CONDITIONAL PACKAGES
    ClassBody : ReferenceTerms → ReferenceTerms → ReferenceTerms → BodyTerm
    -- BEHAVIOUR, ATTRIBUTES, ATTRIBUTE GROUPS, ACTIONS, NOTIFICATIONS
    PackageBody : ReferenceTerms → UseTerms → RowTerms → RowTerms → RowTerms → BodyTerm
    -- WITH SYNTAX or ATTRIBUTE, BEHAVIOUR
    ParameterBody : SyntaxTerm → ReferenceTerms → BodyTerm
    -- SUBORDINATE OBJECT CLASS and whether AND SUBCLASSES stands, the same of NAMED BY SUPERIOR OBJECT CLASS, WITH
    -- ATTRIBUTE, BEHAVIOUR, CREATE, DELETE
    BindingBody : ReferenceTerm → Bool → ReferenceTerm → Bool → ReferenceTerm → ReferenceTerms → LifeTerm → LifeTerm →
        BodyTerm
    -- WITH ATTRIBUTE SYNTAX or DERIVED FROM, MATCHES FOR, BEHAVIOUR, PARAMETERS
    AttributeBody : SyntaxTerm → List Token → ReferenceTerms → ReferenceTerms → BodyTerm
    -- GROUP ELEMENTS, and whether FIXED stands
    GroupBody : ReferenceTerms → Bool → BodyTerm
    -- DEFINED AS
    BehaviourBody : BodyTerm
    -- BEHAVIOUR, whether MODE CONFIRMED stands, PARAMETERS, WITH INFORMATION SYNTAX, WITH REPLY SYNTAX
    ActionBody : ReferenceTerms → Bool → ReferenceTerms → Option QualifiedName → Option QualifiedName → BodyTerm
    -- BEHAVIOUR, PARAMETERS, WITH INFORMATION SYNTAX, AND ATTRIBUTE IDS, WITH REPLY SYNTAX
    NotificationBody : ReferenceTerms → ReferenceTerms → Option QualifiedName → FieldTerms → Option QualifiedName →
        BodyTerm

  -- the syntax of an attribute or a parameter: a type, or that of an attribute
  pub data SyntaxTerm : Type 0 where
    OfType : QualifiedName → SyntaxTerm
    OfAttribute : ReferenceTerm → SyntaxTerm

  -- a DEFAULT VALUE or INITIAL VALUE: none, `Module.value`, or DERIVATION RULE
  pub data StatedTerm : Type 0 where
    NotStated : StatedTerm
    StatedValue : QualifiedName → StatedTerm
    ByRule : ReferenceTerm → StatedTerm

  -- attributes of a package: each with its DEFAULT VALUE and INITIAL VALUE, its PERMITTED VALUES and REQUIRED VALUES,
  -- the words of its other properties, and its parameters
  pub data UseTerms : Type 0 where
    NoUses : UseTerms
    Use : ReferenceTerm → StatedTerm → StatedTerm → Option QualifiedName → Option QualifiedName → List Token →
        ReferenceTerms → UseTerms → UseTerms

  -- groups of a package, each with the attributes that are added; its actions or notifications, each with parameters
  pub data RowTerms : Type 0 where
    NoRows : RowTerms
    Row : ReferenceTerm → ReferenceTerms → RowTerms → RowTerms

  -- CREATE, or DELETE: none, or the words of its modifiers, and its parameters
  pub data LifeTerm : Type 0 where
    NoLife : LifeTerm
    Life : List Token → ReferenceTerms → LifeTerm

  -- the fields of AND ATTRIBUTE IDS, each with its attribute
  pub data FieldTerms : Type 0 where
    NoFields : FieldTerms
    Field : Token → ReferenceTerm → FieldTerms → FieldTerms
