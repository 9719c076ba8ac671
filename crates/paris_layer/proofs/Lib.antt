pub mod AllSame
