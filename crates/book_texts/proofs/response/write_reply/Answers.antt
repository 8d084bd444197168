use Rattle.book_texts.proofs.response.write_reply.Goals as goal

pub returns-in-Credited : goal.returns-in-Credited
returns-in-Credited c = rw c.in-Credited.is c.write_available.ensures

pub returns-in-CreditOver : goal.returns-in-CreditOver
returns-in-CreditOver c = rw c.in-CreditOver.is c.write_available-in-CreditOver.ensures

pub returns-in-Denied : goal.returns-in-Denied
returns-in-Denied c = rw c.in-Denied.is c.write_available-in-Denied.ensures

pub returns-in-Settled : goal.returns-in-Settled
returns-in-Settled c = rw c.in-Settled.is c.write_paid.ensures

pub returns-in-Forfeit : goal.returns-in-Forfeit
returns-in-Forfeit c = rw c.in-Forfeit.is c.write_paid-in-Forfeit.ensures

pub returns-in-Returned : goal.returns-in-Returned
returns-in-Returned c = rw c.in-Returned.is c.write_paid-in-Returned.ensures
