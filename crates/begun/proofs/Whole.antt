-- Every list that the start call begins has demand 3, whoever placed the module and set the registers: for the methods of State, and for the calls exported to C.
use lib.ListN.{length}
use Rattle.start.specs.Start.{start_of, start_call}
use Rattle.confinement.specs.Calls.{Calls, methods, exported}
use Rattle.confinement.specs.Demand.{Demand3}
use Rattle.confinement.proofs.Whole.{demand_3_methods, demand_3_exported}
use Rattle.termination.specs.Ends.{StraightEnds}
use Rattle.termination.proofs.Whole.{straight_ends_methods, straight_ends_exported}
use Rattle.begun.specs.Begun.{StartCall, left_by, BegunSecured, BegunStarts, BegunEnds}
use Rattle.begun.proofs.Ready.{starts_methods, starts_exported}

module _ {S : Type 0} (c : Calls S) (start : StartCall S) where
  -- from demand 3 and what the call promises
  secured_from : Demand3 c → BegunStarts c start → BegunSecured c start
  secured_from d starts l img w b es =
      let (a, s) = starts l img w b in
      let r = d l (length w.memory) img a (left_by c start l img w) s es in
      (r.0, λ v bv e k. r.1 (left_by c start l img v) (rw e at (starts l img v bv).1) k)

  ends_from : StraightEnds c → BegunStarts c start → BegunEnds c start
  ends_from d starts l img w b e =
      d l (length w.memory) img e (left_by c start l img w) (starts l img w b).1

pub begun_secured_methods : BegunSecured methods start_of
begun_secured_methods = secured_from methods start_of demand_3_methods starts_methods

pub begun_secured_exported : BegunSecured exported start_call
begun_secured_exported = secured_from exported start_call demand_3_exported starts_exported

pub begun_ends_methods : BegunEnds methods start_of
begun_ends_methods = ends_from methods start_of straight_ends_methods starts_methods

pub begun_ends_exported : BegunEnds exported start_call
begun_ends_exported = ends_from exported start_call straight_ends_exported starts_exported
