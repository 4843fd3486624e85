-- The program: its laws.
--     Known    what reads and writes do to known bytes, one after the other
mod Known
