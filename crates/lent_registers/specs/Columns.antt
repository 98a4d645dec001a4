-- The registers as the loop lends them: ten columns of sixteen bytes.
use Rattle.std.specs.Prelude.{ℕ, zero, suc, ◌+◌, ◌*◌, List, [], ◌∷◌, eqb, get_or}
use Rattle.state.specs.declared.record.Register.{Register}

-- register k of the columns recency, frame, segment, source, read, write, and word and length, low byte and high byte; a flag is on at 1, and off at any other byte
unfoldable pub register_at : List ℕ → ℕ → Register
register_at xs k =
    record {
      capability = record {
        word = get_or xs (96 + k) 0 + 256 * get_or xs (112 + k) 0;
        length = get_or xs (128 + k) 0 + 256 * get_or xs (144 + k) 0;
        segment = get_or xs (32 + k) 0;
        source = get_or xs (48 + k) 0;
        read = eqb (get_or xs (64 + k) 0) 1;
        write = eqb (get_or xs (80 + k) 0) 1;
      };
      frame = get_or xs (16 + k) 0;
      recency = get_or xs k 0;
    }

-- the n registers from register i on
abbrev pub registers_from : List ℕ → ℕ → ℕ → List Register
registers_from xs zero i = []
registers_from xs (suc n) i = register_at xs i ∷ registers_from xs n (i + 1)

-- all sixteen
unfoldable pub registers_of : List ℕ → List Register
registers_of xs = registers_from xs 16 0
