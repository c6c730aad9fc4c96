use Rattle.prepare_decode.proofs.decoding.decode.Goals as goal

pub returns-in-Latin1 : goal.returns-in-Latin1
returns-in-Latin1 c = rw c.in-Latin1.is (rw (c.in_ok-made-in-Latin1.ensures, c.as_slice.ensures.value) at c.given.ensures)

pub returns-in-Windows1252 : goal.returns-in-Windows1252
returns-in-Windows1252 c =
    rw c.in-Windows1252.is (rw (c.in_ok-made-in-Windows1252.ensures, c.as_slice-in-Windows1252.ensures.value) at c.given-in-Windows1252.ensures)
