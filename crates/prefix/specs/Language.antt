-- A guest's language by its two passes, by types and by values, and what a comparison leaves of a type.
use Rattle.std.specs.Prelude.{Bool, true, false, List, ℤ, Some, None, Err, Option, Result, slice_set}
use Rattle.std.specs.List.{slice_get}
use Rattle.tables.specs.declared.Node.{Node}
use Rattle.guest.specs.declared.answers.Reason.{Reason}
use Rattle.guest.specs.declared.answers.Reason.TheVariants.{BadShape}
use Rattle.guest.specs.Meaning.{Cut, narrowed, no_guard, never}
use Rattle.prefix.specs.declared.grammar.Order.{Order}
use Rattle.prefix.specs.declared.grammar.Head.{Head}
use Rattle.prefix.specs.declared.comparison.Comparison.{Comparison}
use Rattle.prefix.specs.Pass.{Algebra, number_pass, truth_pass}
use Rattle.prefix.specs.Simple.{simple}

pub record Language (U B Ty Va : Type 0) : Type 0 where
  -- what a node stands for, if anything
  pub grammar : Node → Option (Head U B)
  -- a number has a type or none; a truth, whether all its parts have one
  pub by_type : Algebra U B Ty (Option Ty) Bool
  pub by_value : Algebra U B Va (Result Va Reason) (Result Bool Reason)
  -- the part of a type that satisfies a comparison with a constant, if there is any
  pub trimmed : Order → ℤ → Ty → Option Ty

-- a bad shape is a reason, before all others
abbrev pub shaped : {A : Type 0} → Option (Result A Reason) → Result A Reason
shaped None = Err BadShape
shaped (Some r) = r

-- a bad shape has no type
abbrev pub flattened : {A : Type 0} → Option (Option A) → Option A
flattened None = None
flattened (Some r) = r

abbrev pub put_back : {Ty : Type 0} → List Ty → Comparison → Option Ty → Cut Ty
put_back types c None = never
put_back types c (Some t) = narrowed (slice_set types c.place t)

abbrev pub cut_place : {Ty : Type 0} → (Order → ℤ → Ty → Option Ty) → List Ty → Comparison → Option Ty → Cut Ty
cut_place trimmed types c None = no_guard
cut_place trimmed types c (Some t) = put_back types c (trimmed c.order c.constant t)

-- only a guard of exactly three nodes, comparison, read, constant, narrows: the type at the place that it reads
abbrev pub cut_by : {Ty : Type 0} → (Order → ℤ → Ty → Option Ty) → List Ty → Option Comparison → Cut Ty
cut_by trimmed types None = narrowed types
cut_by trimmed types (Some c) = cut_place trimmed types c (slice_get types c.place)

-- no guard: a bad shape, or a part with no type
abbrev pub cut : {Ty : Type 0} → (Order → ℤ → Ty → Option Ty) → List Ty → Option Bool → Option Comparison → Cut Ty
cut trimmed types None c = no_guard
cut trimmed types (Some false) c = no_guard
cut trimmed types (Some true) c = cut_by trimmed types c

module _ {U B Ty Va : Type 0} (L : Language U B Ty Va) where
  abbrev pub right_type : List Node → List Ty → Option Ty
  right_type ns types = flattened (number_pass L.grammar L.by_type ns types)

  abbrev pub right_value : List Node → List Va → Result Va Reason
  right_value ns row = shaped (number_pass L.grammar L.by_value ns row)

  abbrev pub guard_verdict : List Node → List Va → Result Bool Reason
  guard_verdict ns row = shaped (truth_pass L.grammar L.by_value ns row)

  abbrev pub guard_cut : List Node → List Ty → Cut Ty
  guard_cut ns types = cut L.trimmed types (truth_pass L.grammar L.by_type ns types) (simple L.grammar ns)
