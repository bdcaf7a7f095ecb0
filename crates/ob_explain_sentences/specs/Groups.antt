-- How expected kinds of token are told: whole groups of them by a name.
use Rattle.std.specs.Prelude.{ℕ, Bool, not, List, [], ◌∷◌, ◌++◌, map, filter, codes, if◌then◌else◌}
use Rattle.std.specs.List.{list_all, list_any}
use denote.Enum.Bare.{sameb}
use Rattle.ob_scan.specs.declared.token.Kind.{Kind}
use Rattle.ob_scan.specs.declared.token.Kind.TheVariants.{Ident, Number, If, While, Repeat, Array, Record, LeftParen, Not, Plus, Minus, Or, Times}
use Rattle.ob_scan.specs.declared.token.Kind.TheVariants.{Div, Mod, And, Equal, NotEqual, Less, LessOrEqual, Greater, GreaterOrEqual}
use Rattle.ob_scan.specs.contracts.token.Kind.{the_type}
use Rattle.ob_explain_sentences.specs.declared.groups.Group.{Group}
use Rattle.ob_explain_sentences.specs.declared.groups.Group.TheVariants as Groups
use Rattle.ob_explain_sentences.specs.declared.groups.Phrase.{Phrase}
use Rattle.ob_explain_sentences.specs.declared.groups.Phrase.TheVariants.{Whole, Single}
use Rattle.ob_explain_sentences.specs.Kinds.{kind_name}

abbrev pub group_name : Group → List ℕ
group_name Groups.Statement = codes "a statement"
group_name Groups.Expression = codes "an expression"
group_name Groups.Operand = codes "an operand"
group_name Groups.TypeName = codes "a type"
group_name Groups.Operator = codes "an operator"
group_name Groups.Relation = codes "a relation"
group_name Groups.Adding = codes "an adding operator"
group_name Groups.Multiplying = codes "a multiplying operator"

-- the kinds of token that a group is: those with which such a phrase begins, or all of such operators
abbrev pub group_kinds : Group → List Kind
group_kinds Groups.Statement = Ident ∷ If ∷ While ∷ Repeat ∷ []
group_kinds Groups.Expression = Ident ∷ Number ∷ LeftParen ∷ Not ∷ Plus ∷ Minus ∷ []
group_kinds Groups.Operand = Ident ∷ Number ∷ LeftParen ∷ Not ∷ []
group_kinds Groups.TypeName = Ident ∷ Array ∷ Record ∷ []
group_kinds Groups.Operator = Equal ∷ NotEqual ∷ Less ∷ LessOrEqual ∷ Greater ∷ GreaterOrEqual ∷ Plus ∷ Minus ∷ Or ∷ Times ∷ Div ∷ Mod ∷ And ∷ []
group_kinds Groups.Relation = Equal ∷ NotEqual ∷ Less ∷ LessOrEqual ∷ Greater ∷ GreaterOrEqual ∷ []
group_kinds Groups.Adding = Plus ∷ Minus ∷ Or ∷ []
group_kinds Groups.Multiplying = Times ∷ Div ∷ Mod ∷ And ∷ []

-- all groups, in the order in which they are looked for
unfoldable pub groups : List Group
groups =
    Groups.Statement ∷ Groups.Expression ∷ Groups.Operand ∷ Groups.TypeName
    ∷ Groups.Operator ∷ Groups.Relation ∷ Groups.Adding ∷ Groups.Multiplying ∷ []

-- whether a kind is one of these
abbrev pub has : List Kind → Kind → Bool
has kinds kind = list_any (λ k. sameb the_type k kind) kinds

-- whether all of a group are among these
abbrev pub has_all : List Kind → Group → Bool
has_all kinds group = list_all (has kinds) (group_kinds group)

-- those that are not of a group
abbrev pub without : Group → List Kind → List Kind
without group kinds = filter (λ k. not (has (group_kinds group) k)) kinds

-- A group that is whole is told by its name, and its kinds are told no more; what is left is told kind by kind.
unfoldable pub phrases : List Group → List Kind → List Phrase
phrases [] kinds = map Single kinds
phrases (group ∷ rest) kinds =
    if has_all kinds group then Whole group ∷ phrases rest (without group kinds) else phrases rest kinds

abbrev pub phrase_text : Phrase → List ℕ
phrase_text (Whole group) = group_name group
phrase_text (Single kind) = kind_name kind

-- phrases behind another one: the last stands behind "or"
abbrev pub further : List Phrase → List ℕ
further [] = []
further (phrase ∷ []) = codes " or " ++ phrase_text phrase
further (phrase ∷ next ∷ rest) = codes ", " ++ phrase_text phrase ++ further (next ∷ rest)

abbrev pub listed : List Phrase → List ℕ
listed [] = []
listed (phrase ∷ rest) = phrase_text phrase ++ further rest
