-- The reader behind one that records.
use Rattle.live_answers.specs.declared.recording.Recording.{Recording}

-- the reader that is read
abbrev pub recorded_input : {I : Type 0} → Recording I → I
recorded_input recording = recording.input
