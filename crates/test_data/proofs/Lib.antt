pub mod PlainZeros
