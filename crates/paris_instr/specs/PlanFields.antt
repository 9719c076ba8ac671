-- What a clause sees of a plan.
use Rattle.paris_model.specs.Instructions.{Plan as Resolved}
use Rattle.paris_instr.specs.declared.plans.Plan.TheInside.{Inside}

-- the definitions' plan, by the fields of a plan
abbrev pub plan_of : Inside → Resolved
plan_of p = record { instr = p.instr; set_no = p.set; axes = p.geometry; action = p.action }
