-- The number and the place of a refused plan.
--
--   Refusal        a refusal's number, and its place: a node and the number of the cause there
--   refused        refusal 12 at a node for a cause
--   cause_number   Missing 1, Value 2, Lower 3, Column 4, Width 5, Nodes 6
--   fault_at       the fault of a cause at a node
--   plan_refusal   number and place of each fault
--   plan_told      a checker's answer with its fault as number and place
--   plan_text      what is printed of a fault: `plan refused 12 at`, the node and the cause
use Rattle.std.specs.Prelude.{ℕ, List, ◌++◌, Ok, Err, Result, codes, decimal}
use Rattle.plan.specs.declared.fault.Cause.{Cause}
use Rattle.plan.specs.declared.fault.Cause.TheVariants.{Missing, Value, Lower, Column, Width, Nodes}
use Rattle.plan.specs.declared.fault.PlanFault.{PlanFault}

pub record Refusal : Type 0 where
  pub number : ℕ
  pub place : ℕ × ℕ

abbrev pub refused : ℕ → ℕ → Refusal
refused node cause = record { number = 12; place = (node, cause) }

abbrev pub cause_number : Cause → ℕ
cause_number Missing = 1
cause_number Value = 2
cause_number Lower = 3
cause_number Column = 4
cause_number Width = 5
cause_number Nodes = 6

abbrev pub fault_at : ℕ → Cause → PlanFault
fault_at node cause = record { node = node; cause = cause }

abbrev pub plan_refusal : PlanFault → Refusal
plan_refusal f = refused f.node (cause_number f.cause)

abbrev pub plan_told : {X : Type 0} → Result X PlanFault → Result X Refusal
plan_told (Ok x) = Ok x
plan_told (Err fault) = Err (plan_refusal fault)

abbrev pub plan_text : PlanFault → List ℕ
plan_text f =
    codes "plan refused " ++ (decimal (plan_refusal f).number ++ (codes " at " ++ (decimal f.node ++ (codes " " ++ decimal (cause_number f.cause)))))
