-- A loaded sheet as lists, and what a load promises.
use Rattle.std.specs.Prelude.{◌≡◌, ◌⊎◌, [], Ok, Err, vec_items, Result}
use Rattle.sheet.specs.declared.loaded.Sheet.{Sheet}
use Rattle.tables.specs.declared.LoadRefusal.{LoadRefusal}
use Rattle.tables.specs.declared.LoadRefusal.TheVariants.{Memory}
use Rattle.tables.specs.Answers.{Answer, fine, refusal, answer}
use Rattle.tables.specs.Tables.{Lent}
use Rattle.tables.specs.Load.{Verdict, judged}
use Rattle.tables.specs.Allowed.{Allowed}
use Rattle.sheet.specs.Contents.{Contents, contents_of, written}

abbrev pub contents : Sheet → Contents
contents s =
    contents_of (vec_items s.values) (vec_items s.events) (vec_items s.automata) (vec_items s.turns) (vec_items s.transitions) (vec_items s.guards) (vec_items s.actions) (vec_items s.nodes)

-- the sheet with no record
abbrev pub nothing : Contents
nothing = contents_of [] [] [] [] [] [] [] []

-- In numbers: the answer is the judgement's, but that there may be no memory for tables that pass it.
abbrev pub Answered : Verdict → Answer → Type 0
Answered (Ok _) a = (a ≡ fine) ⊎ (a ≡ refusal Memory)
Answered (Err e) a = a ≡ refusal e

-- The same of the refusal itself.
abbrev pub Decided : Verdict → Verdict → Type 0
Decided (Ok _) (Ok _) = Unit {0}
Decided (Ok _) (Err e) = e ≡ Memory
Decided (Err d) r = r ≡ Err d

-- Only allowed tables are accepted, and they are refused only for want of memory.
abbrev pub Accepted : Lent → Verdict → Type 0
Accepted t (Ok _) = Allowed t
Accepted t (Err e) = Allowed t → e ≡ Memory

-- what a load of the tables t answers
pub record Loads (t : Lent) (r : Verdict) : Type 0 where
  pub answered : Answered (judged t) (answer r)
  pub decided : Decided (judged t) r
  pub accepted : Accepted t r

-- the contents are written as the tables t, and no other contents are
pub record StandsFor (c : Contents) (t : Lent) : Type 0 where
  pub same : written c ≡ t
  pub alone : (d : Contents) → written d ≡ t → d ≡ c

-- The sheet then holds just the lent tables, or is as it was.
abbrev pub Holds : Lent → Sheet → Sheet → Verdict → Type 0
Holds t before after (Ok _) = StandsFor (contents after) t
Holds t before after (Err _) = after ≡ before

-- A new sheet of the tables t, or the refusal.
abbrev pub Read : Lent → Result Sheet LoadRefusal → Type 0
Read t (Ok s) = Loads t (Ok tt) × StandsFor (contents s) t
Read t (Err e) = Loads t (Err e)
