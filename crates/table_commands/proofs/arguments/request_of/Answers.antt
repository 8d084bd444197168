use Rattle.table_commands.proofs.arguments.request_of.Goals as goal

pub returns-in-run : goal.returns-in-run
returns-in-run c = rw c.in-run.is c.run_request.ensures

pub returns-in-serve : goal.returns-in-serve
returns-in-serve c = rw c.in-serve.is c.serve_request.ensures
