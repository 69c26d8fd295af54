-- What a gathered table leaves in its run, and what gathering answers. Assumes nothing.
--     laid_in_run          where a table holds the nets of a message, its run has them with blank lines behind
--     until_all            where no record is refused, the records before the first refusal are all
--     answer_ok, answer_err      the answer, from whether there was a refusal
use Rattle.std.proofs.Common.{◌≡◌, ℕ, ◌-◌, ◌≤◌, Bool, true, false, cond, List, [], ◌∷◌, ◌++◌, length, replicate, Some, None, Ok, Err, Result, refl, ap, ◌∙◌}
use Rattle.bag.specs.Lines.{blank_change_line}
use Rattle.table.specs.LineTables.{ChangeTable}
use Rattle.table.specs.Tables.{items, capacity}
use Rattle.table.proofs.SoundTables.{holds_change}
use Rattle.message.specs.declared.record.Record.{Record}
use Rattle.message.specs.Reading.{Reading, ends, refused, item, reading}
use Rattle.plan.specs.declared.node.Node.{Node}
use Rattle.nets.specs.Nets.{nets_of}
use Rattle.nets.specs.GatherRefusal.{Told, table_refusal, fault_in}
use Rattle.nets.specs.Gathered.{of_base, behind, movements_in, movements_until, gathered, gathered_until}
use Rattle.nets.specs.NetRun.{laid_nets, counted_lines, lines_told}

pub until_all : (nodes : List Node) (x : Reading) (m : List Record) → movements_in nodes x ≡ Ok m → movements_until nodes x ≡ m
unfolding movements_in movements_until
until_all nodes ends m h = cc
until_all nodes (refused e) m h = let z : ⊥ = cc in absurd z
until_all nodes (item at r rest) m h = by (of_base nodes r) (movements_in nodes rest) refl h (until_all nodes rest)
  where
    by : (b : Bool) (o : Result (List Record) Told) → movements_in nodes rest ≡ o → cond b (behind r o) (Err (table_refusal at)) ≡ Ok m
        → ((n : List Record) → movements_in nodes rest ≡ Ok n → movements_until nodes rest ≡ n) → cond b (r ∷ movements_until nodes rest) [] ≡ m
    by true (Ok n) e h rec = let s : r ∷ n ≡ m = cc in ap (λ xs. r ∷ xs) (rec n e) ∙ s
    by true (Err f) e h rec = let z : ⊥ = cc in absurd z
    by false o e h rec = let z : ⊥ = cc in absurd z

module _ (nodes : List Node) (bytes : List ℕ) where
  -- in a run of n places
  abbrev pub Laid : ChangeTable → ℕ → Type 0
  Laid t n = (1024 ≤ n → t.run.now ≡ laid_nets n (gathered_until nodes bytes)) × (1024 ≤ n → (m : List Record) → gathered nodes bytes ≡ Ok m → t.run.now ≡ laid_nets n m)

  pub laid_in_run : (t : ChangeTable) (n : ℕ) → capacity t ≡ n → (1024 ≤ n → items t ≡ nets_of (gathered_until nodes bytes)) → Laid t n
  laid_in_run t n long are = (laid, λ l m e. laid l ∙ ap (laid_nets n) (until_all nodes (reading bytes) m e))
    where
      laid : 1024 ≤ n → t.run.now ≡ laid_nets n (gathered_until nodes bytes)
      laid l = let nets = nets_of (gathered_until nodes bytes) in (holds_change t nets (are l)).whole ∙ ap (λ k. nets ++ replicate (k - length nets) blank_change_line) long

  pub answer_ok : (n : ℕ) → None ≡ fault_in (gathered nodes bytes) → n ≡ length (nets_of (gathered_until nodes bytes)) → Ok n ≡ lines_told nodes bytes
  answer_ok n f l = by (gathered nodes bytes) refl f
    where
      by : (o : Result (List Record) Told) → gathered nodes bytes ≡ o → None ≡ fault_in o → Ok n ≡ counted_lines o
      by (Ok m) e f = ap Ok (l ∙ ap (λ v. length (nets_of v)) (until_all nodes (reading bytes) m e))
      by (Err t) e f = let z : ⊥ = cc in absurd z

  pub answer_err : (t : Told) → Some t ≡ fault_in (gathered nodes bytes) → Err t ≡ lines_told nodes bytes
  answer_err t f = by (gathered nodes bytes) f
    where
      by : (o : Result (List Record) Told) → Some t ≡ fault_in o → Err t ≡ counted_lines o
      by (Ok m) f = let z : ⊥ = cc in absurd z
      by (Err u) f = let s : t ≡ u = cc in ap Err s
