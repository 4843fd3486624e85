-- What stands at a place of a file that was read into a room, with however many levels left, and the word there, by group.
-- Working: `can-run_file` of runner/proofs/Files says that the command of a file stands so where its main program starts,
-- `command-parts`, `arithmetic-parts`, `boolean-parts` and `array_parts` of proofs/Parts that its parts do. Assumes nothing.
--     arithmetic_at, boolean_at, array_at, command_at
--                                        the word at a place, decoded by its group
--     OfGroup                            the word at a place is of a group
--     FileInRoom                         the words of a file stand in front of a room
--     PartAt                             a part of such a file, whose ends are known, stands from a place up to another
--     resolved_part                       a command whose calls hold the bodies of a context's procedures
--     start_place                         where the list of ends has the start of a procedure
--     BodyAt, BodiesAt                   the body of a procedure stands where it starts; those of a context do
--     Runnable                           a command stands at a place, and the bodies that it calls at theirs
--     ExpressionStands, CommandStands    an expression of a sort, a command stands at a place
use Rattle.std.specs.Prelude.{◌≡◌, List, ℕ, ◌+◌, ◌*◌, ◌/◌, ◌<◌, ◌≤◌, length, get_or}
use Rattle.std.proofs.Math.Option.{some}
use Rattle.language.specs.Syntax.{Sort, Expr, Command}
use Rattle.rules.specs.Words.{command_words}
use Rattle.rules.specs.Context.{Procedure, Context, item_at}
use Rattle.rules.specs.Resolved.{Resolved}
use Rattle.layout.specs.Bytes.{kind_at, payload_at}
use Rattle.layout.specs.Spelling.{FitsCommand}
use Rattle.layout.specs.EvidenceWords.{Part, expression_part}
use Rattle.layout.specs.Standing.{PartStands}
use Rattle.ends.specs.Ends.{EndsOf}
use Rattle.words.specs.Decode.{arithmetic_of, boolean_of, array_of, command_of}
use Rattle.words.specs.declared.ArithmeticWord.{ArithmeticWord}
use Rattle.words.specs.declared.BooleanWord.{BooleanWord}
use Rattle.words.specs.declared.ArrayWord.{ArrayWord}
use Rattle.words.specs.declared.CommandWord.{CommandWord}

abbrev pub arithmetic_at : List ℕ → ℕ → ArithmeticWord
arithmetic_at file at = arithmetic_of (kind_at file at) (payload_at file at)

abbrev pub boolean_at : List ℕ → ℕ → BooleanWord
boolean_at file at = boolean_of (kind_at file at) (payload_at file at)

abbrev pub array_at : List ℕ → ℕ → ArrayWord
array_at file at = array_of (kind_at file at) (payload_at file at)

abbrev pub command_at : List ℕ → ℕ → CommandWord
command_at file at = command_of (kind_at file at) (payload_at file at)

-- `of` decodes a word, which is `other` if it is not of the group
pub record OfGroup {A : Type 0} (of : ℕ → ℕ → A) (other : A) (w : List ℕ) (at : ℕ) : Type 0 where
  pub inside : at < length w
  pub of-group : of (kind_at w at) (payload_at w at) ≡ other → ⊥

pub record FileInRoom (file w : List ℕ) : Type 0 where
  pub size : length file ≤ 8192
  pub short : length file ≤ length w
  pub same : (i : ℕ) → i < length file → get_or w i 0 ≡ get_or file i 0

pub record PartAt (w ends : List ℕ) (x : Part) (at p : ℕ) : Type 0 where
  pub file : List ℕ
  pub loaded : FileInRoom file w
  pub ends_of : EndsOf file ends
  pub levels : ℕ
  pub stands : PartStands file x levels at p

pub record ExpressionStands (w ends : List ℕ) (k : Sort) (at : ℕ) : Type 0 where
  pub tree : Expr k
  pub past : ℕ
  pub there : PartAt w ends (expression_part tree) at past

abbrev pub resolved_part : Context → Command → Part
resolved_part Γ c = record { spelling = command_words c; fits = λ d at. FitsCommand Γ c d × Resolved Γ.procedures c }

-- word 0 has the count of words; behind their ends and the masks of their blocks stand the starts of the programs
abbrev pub start_place : List ℕ → ℕ → ℕ
start_place w n = payload_at w 0 + 2 * (payload_at w 0 / 32) + n

-- procedure n is k, and starts at `place`
pub record BodyAt (w ends : List ℕ) (Γ : Context) (place n : ℕ) (k : Procedure) : Type 0 where
  pub start : get_or ends (start_place w n) 0 ≡ place
  pub past : ℕ
  pub there : PartAt w ends (resolved_part Γ k.body) place past

pub record BodiesAt (w ends : List ℕ) (Γ : Context) (body_at : ℕ → ℕ) : Type 0 where
  pub known : (n : ℕ) (k : Procedure) → item_at Γ.procedures n ≡ some k → BodyAt w ends Γ (body_at n) n k

pub record Runnable (w ends : List ℕ) (c : Command) (at p : ℕ) : Type 0 where
  pub context : Context
  pub body_at : ℕ → ℕ
  pub bodies : BodiesAt w ends context body_at
  pub there : PartAt w ends (resolved_part context c) at p

pub record CommandStands (w ends : List ℕ) (at : ℕ) : Type 0 where
  pub tree : Command
  pub past : ℕ
  pub there : Runnable w ends tree at past
