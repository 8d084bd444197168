use Rattle.ssf_core.proofs.operations.resume.Goals as goal

pub returns-in-Initial-clause-takes : goal.returns-in-Initial-clause-takes
returns-in-Initial-clause-takes c = rw c.in-Initial.is (λ config. c.go_on.ensures.takes config c.in-Initial.due)
