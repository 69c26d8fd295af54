pub mod ByteLines
pub mod ByteStored
pub mod ByteTally
pub mod ByteLawful
pub mod ByteStocks
