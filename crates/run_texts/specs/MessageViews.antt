-- What the code reads of a row, as a trace prints it.
use Rattle.run_texts.specs.Messages.{MessageView, speech_of}
use Rattle.run_texts.specs.declared.message.Message.{Message}

-- a message of the code
abbrev pub view_of : Message → MessageView
view_of message = record { at = message.at; number = message.number; speech = speech_of message.body }
