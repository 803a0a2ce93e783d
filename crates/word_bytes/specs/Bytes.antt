-- Words as bytes: the eight bytes of a word, the least first, and the word that eight bytes are; of a list of words, and of a list of bytes.
use Rattle.std.specs.Prelude.{ℕ, ◌/◌, ◌%◌, Bool, List, map, eqb, length}
use Rattle.lists.specs.Lists.{concat_map, rows}
use Rattle.byteorder.specs.Endian.{little_bytes, little_number}

abbrev pub word_bytes : ℕ → List ℕ
word_bytes n = little_bytes 8 n

abbrev pub word_of : List ℕ → ℕ
word_of bytes = little_number 8 bytes

-- the bytes of the words, end to end
unfoldable pub bytes_of : List ℕ → List ℕ
bytes_of ws = concat_map word_bytes ws

-- whether bytes are whole words, and the words that they are, eight bytes each
abbrev pub are_words : List ℕ → Bool
are_words bytes = eqb (length bytes % 8) 0

unfoldable pub words_in : List ℕ → List ℕ
words_in bytes = map word_of (rows 8 (length bytes / 8) bytes)
