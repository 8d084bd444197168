-- What an ask of the code says.
use Rattle.account_core.specs.Entries.{asked_of}
use Rattle.book_texts.specs.Asks.{SeatAsk}
use Rattle.book_texts.specs.declared.replaying.Ask.{Ask}

-- the seat and what it asks
abbrev pub asking_of : Ask → SeatAsk
asking_of ask = record { seat = ask.seat; asked = asked_of ask.op }
