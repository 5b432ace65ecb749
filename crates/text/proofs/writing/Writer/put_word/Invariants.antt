-- The bytes of the word that were met are put.
use Rattle.std.proofs.Common.{take}
use Rattle.text.specs.Writing.{Puts}
use Rattle.text.proofs.writing.Writer.put_word.Given as goal

abbrev pub invariant-loop-byte : goal.invariant-loop-byte
invariant-loop-byte l = Puts l.initial.self l.self (take l.byte-index l.word)
